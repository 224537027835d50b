-- What a sweep of a book on the yard answers.
use Rattle.std.proofs.Common.{◌≡◌, ℕ, ◌<◌, List, length, get_or, take, Ok, sym, refl, ap, ◌∙◌, subst, rules, arith}
use Rattle.book.specs.Reading.{Serving, pairs_there}
use Rattle.std.proofs.lemmas.List.{length_push}
use Rattle.book.specs.Sweeping.{Served, Entered, SweepRefused, swept_sheet, unused}
use Rattle.book.specs.declared.added.Added.{Added}
use Rattle.book.specs.declared.book.Book.{Book}
use Rattle.book.specs.declared.fault.PlannerFault.{PlannerFault}
use Rattle.book.specs.declared.fault.PlannerFault.TheVariants.{RowsFull}
use Rattle.criteria.specs.Limit.{limit_meaning}
use Rattle.criteria.specs.Sum.{sum_meaning}
use Rattle.criteria.specs.declared.limit.Limit.{Limit}
use Rattle.criteria.specs.declared.limit.LimitValue.{LimitValue}
use Rattle.criteria.specs.declared.sum.Sum.{Sum}
use Rattle.criteria.specs.declared.sum.SumValue.{SumValue}
use Rattle.roads.specs.declared.road.Road.{Road}
use Rattle.rows.specs.declared.row.Row.{Row}
use Rattle.sweep.specs.Sweeps.{plan_of}
use Rattle.trips.specs.Pages.{Page, Rows}
use Rattle.trips.specs.Plans.{Plan, swept}
use Rattle.trips.proofs.Pages.{unique_page}
use Rattle.trips.proofs.RowCounts.{unique_rows}
use Rattle.yard.specs.Calls.{by_time, by_load, Opened, Swept}
use Rattle.yard.specs.Network.{sweep_from}
use Rattle.yard.specs.Table.{listed}
use Rattle.yard.proofs.Laying.{within_yard}
use Rattle.yard.proofs.Sweeps.{table, time, load}

module _ (k : Book Sum Limit) (roads : List Road) (rows : List (Row SumValue LimitValue)) (o : Opened k roads) where
  -- the plan of a sweep of the book from place 0
  abbrev plan : Plan
  plan = plan_of (by_time k) (by_load k) k.network roads 0

  plan_is : plan ≡ sweep_from 0
  plan_is = λ i. swept (o.on.built.places i) (take (o.on.built.roads i) (o.on.built.table_is i)) 0

  -- what holds by the book's criteria, of its number of places and its plan, holds of the yard's
  moved : (F : ℕ → ℕ → ℕ → Plan → Type 0) → F k.first.column.index k.second.column.index k.network.places plan → F 0 2 4 (sweep_from 0)
  moved F h =
      subst
      (F 0 2 4)
      plan_is
      (subst (λ n. F 0 2 n plan) o.on.built.places (subst (λ j. F 0 j k.network.places plan) o.on.second (subst (λ i. F i k.second.column.index k.network.places plan) o.on.first h)))

  -- the tables serve the book, which has no sheet yet
  serves : Served (by_time k) (by_load k) k roads rows
  serves = record {
    by_roads = record {
      long = omega (arith, o.on.built.roads, ap length o.on.built.table_is);
      named = λ i d lt.
          within_yard k.network.places i d (get_or roads i d) o.on.built.places (omega (arith, o.on.built.roads)) (ap (λ l. get_or l i d) o.on.built.table_is);
    };
    by_rows = record {
      long = omega (arith, o.used);
      each = λ i d lt. absurd (omega (arith, lt, o.count));
    };
  }

  -- a sweep is refused only where there are fewer than 6 rows
  pub refused : (f : PlannerFault) → SweepRefused (by_time k) (by_load k) k roads rows 0 f → (length rows < 6) × (f ≡ RowsFull)
  refused RowsFull (_, _, _, _, few) =
      let less = moved (λ i j n P. (m : ℕ) → Rows (sum_meaning i) (limit_meaning j) n P m → unused k rows < m) few 6 table.six in
      (omega (arith, o.used), refl)
  refused f h = let serving = serves in search rules

  -- an accepted one adds sheet 0 with its 6 rows, which are those of the table
  module _ (k' : Book Sum Limit) (rows' : List (Row SumValue LimitValue)) (added : Added) (h : Entered (by_time k) (by_load k) k k' roads rows rows' 0 added) where
    six : added.rows ≡ 6
    six = unique_rows time.laws load.laws 4 (sweep_from 0) added.rows 6 (moved (λ i j n P. Rows (sum_meaning i) (limit_meaning j) n P added.rows) h.number) table.six

    sheet_is : added.sheet ≡ 0
    sheet_is = h.sheet ∙ o.count

    lists : (p : ℕ) → pairs_there k' rows' 0 p ≡ listed p
    lists p =
        let pairs = pairs_there k' rows' added.sheet p in
        let page = moved (λ i j n P. Page (sum_meaning i) (limit_meaning j) P p pairs) (h.pages p) in
        ap (λ s. pairs_there k' rows' s p) (sym sheet_is) ∙ unique_page time.laws load.laws (sweep_from 0) p pairs (listed p) page (table.pages p)

    serving : Serving (by_time k') (by_load k') k' rows'
    serving =
        subst
        (λ s. Serving (by_time k') (limit_meaning s.column.index) k' rows')
        (sym h.book.second)
        (subst (λ s. Serving (sum_meaning s.column.index) (by_load k) k' rows') (sym h.book.first) h.again.by_rows)

    pub accepted : Swept rows rows' (Ok (k', added))
    accepted = (
      omega (arith, six, h.fits),
      (λ i. record { sheet = sheet_is i; rows = six i }),
      record {
        places = ap (λ n. n.places) h.book.network ∙ o.on.built.places;
        count = omega (arith, ap length h.book.sheets, length_push k.sheets.items (swept_sheet k 0 added.rows), o.count);
        serving = serving;
        lists = lists;
      },
    )
