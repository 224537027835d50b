-- What reading a row of the yard's sheet answers.
use Rattle.std.proofs.Common.{◌≡◌, ℕ, ◌<◌, ◌≤◌, List, length, Ok, Err, subst, ap, rules, arith}
use lib.ListN.{length-map}
use Rattle.book.specs.Reading.{sheet_of, rows_there, RowThere, RowRefused}
use Rattle.book.specs.declared.book.Book.{Book}
use Rattle.book.specs.declared.fault.PlannerFault.{PlannerFault}
use Rattle.book.specs.declared.fault.PlannerFault.TheVariants.{ForeignTable, NoSuchSheet, NoSuchPlace, NoSuchRow, SheetsFull, RowsFull, NoTrip}
use Rattle.criteria.specs.declared.limit.Limit.{Limit}
use Rattle.criteria.specs.declared.limit.LimitValue.{LimitValue}
use Rattle.criteria.specs.declared.sum.Sum.{Sum}
use Rattle.criteria.specs.declared.sum.SumValue.{SumValue}
use Rattle.rows.specs.Places.{pair_of, rows_of}
use Rattle.rows.specs.declared.row.Row.{Row}
use Rattle.rows.proofs.Filter.{pair_stands}
use Rattle.trips.specs.Elements.{At}
use Rattle.yard.specs.Calls.{by_time, by_load, Listing, read_at}
use Rattle.yard.specs.Table.{timed, listed}

module _ (k : Book Sum Limit) (rows : List (Row SumValue LimitValue)) (l : Listing k rows) (p i : ℕ) where
  -- a row of the sheet is the one that the table lists
  pub found : (r : Row SumValue LimitValue) → RowThere (by_time k) (by_load k) k rows 0 p i r → Ok (pair_of r) ≡ read_at p i
  found r (readable, at) =
      let stands : At (listed p) i (pair_of r) = subst (λ o. At o i (pair_of r)) (l.lists p) (pair_stands p (rows_of (sheet_of k 0) rows) i r at) in
      let is = stands.1 (timed 0 0) in
      search rules

  -- a refusal is the one that the table calls for
  pub missed : (f : PlannerFault) → RowRefused (by_time k) (by_load k) k rows 0 p i f → Err f ≡ read_at p i
  missed ForeignTable foreign = absurd (foreign l.serving)
  missed NoSuchSheet (_, none) = absurd (omega (arith, none, l.count))
  missed NoSuchPlace (_, _, far) = search (rules, l.places)
  missed NoSuchRow (readable, past) =
      let low : p < 4 = omega (arith, readable.place, l.places) in
      let none : length (listed p) ≤ i = omega (arith, past, length-map (rows_there k rows 0 p) pair_of, ap length (l.lists p)) in
      search rules
  missed SheetsFull h = absurd h
  missed RowsFull h = absurd h
  missed NoTrip h = absurd h
