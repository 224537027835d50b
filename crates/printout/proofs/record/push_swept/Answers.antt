use Rattle.std.proofs.Common.{ℕ, Ok, Result, subst, ◌≡◌, length, replicate, ap, ◌∙◌, inl, inr, arith}
use lib.ListN.{length-replicate}
use Rattle.criteria.specs.Fault.{Made}
use Rattle.criteria.specs.declared.fault.CriterionFault.{CriterionFault}
use Rattle.trips.specs.Efficient.{UniqueRows}
use Rattle.printout.specs.Record.{by_load, by_time}
use Rattle.printout.proofs.Sheets.{New, crowded_out, few, listed}
use Rattle.printout.proofs.Told.{fault_told}
use Rattle.printout.specs.declared.fault.RecordFault.TheVariants.{Planner}
use Rattle.printout.proofs.record.push_swept.Goals as goal
use Rattle.printout.proofs.record.push_swept.Goals.{After-open-book}

-- a criterion of a mark that there is reads that mark
made_of : {T : Type 0} (column : T → ℕ) (n : ℕ) (r : Result T CriterionFault) (x : T) → Made column n r → r ≡ Ok x → column x ≡ n
made_of column n r x made is = (subst (Made column n) is made).1

time_is : (c : After-open-book) → c.unwrap-time.result.column.index ≡ 0
time_is c = made_of (λ s. s.column.index) 0 c.new.result c.unwrap-time.result c.new.ensures c.unwrap-time.ensures

load_is : (c : After-open-book) → c.unwrap-load.result.column.index ≡ 2
load_is c = made_of (λ l. l.column.index) 2 c.new-2.result c.unwrap-load.result c.new-2.ensures c.unwrap-load.ensures

-- the book is new, and so is its table
new : (c : After-open-book) → New c.args.network.now c.open-book.result (replicate 1024 c.unused-rows.result)
new c = record {
  network = c.open-book.ensures.network;
  first = ap (λ x. x.column.index) c.open-book.ensures.first ∙ time_is c;
  second = ap (λ x. x.column.index) c.open-book.ensures.second ∙ load_is c;
  empty = c.open-book.ensures.sheets;
  unused_all = c.open-book.ensures.used;
  long = length-replicate 1024 c.unused-rows.result;
}

-- a plan has one number of rows by the record's criteria
unique : (c : After-open-book) → UniqueRows by_time by_load
unique c = rw (time_is c, load_is c) at c.rows_are_counted.ensures.unique

pub push_places-requires-clause-room : goal.push_places-requires-clause-room
push_places-requires-clause-room c =
    let n = c.args.network.now in
    let o = (goal.at.push_places-requires-clause-room c).After-open-book in
    let k' = c.sweep.new.self in
    let rows' = c.sweep.new.rows in
    let rows = replicate 1024 c.unused-rows.result in
    let room = few n c.args.roads.now c.open-book.result rows (new o) k' rows' c.in_ok-sweep.field-0 c.in_ok-sweep.ensures (unique o) in
    let empty : length c.args.output.now.bytes ≡ 0 = ap length c.requires.empty in
    rw c.places.ensures (omega (arith, room, empty, n.places_fit))

pub returns-in_err-sweep-clause-noted : goal.returns-in_err-sweep-clause-noted
returns-in_err-sweep-clause-noted c =
    let n = c.args.network.now in
    let o = (goal.at.returns-in_err-sweep-clause-noted c).After-open-book in
    let f = c.in_err-sweep.field-0.0 in
    let out = crowded_out n c.args.roads.now c.open-book.result (replicate 1024 c.unused-rows.result) (new o) c.requires.serves f c.in_err-sweep.ensures.0 in
    inr (rw (fault_told _ (Planner f) _ c.from_residual.ensures.1) out)

pub returns-clause-noted : goal.returns-clause-noted
returns-clause-noted c =
    let n = c.args.network.now in
    let o = (goal.at.returns-clause-noted c).After-open-book in
    let k' = c.sweep.new.self in
    let rows' = c.sweep.new.rows in
    inl (rw (c.push_places.ensures, c.requires.empty, c.places.ensures) (listed n c.args.roads.now c.open-book.result (replicate 1024 c.unused-rows.result) (new o) k' rows' c.in_ok-sweep.field-0 c.in_ok-sweep.ensures (unique o)))
