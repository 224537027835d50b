-- What the sweep of a new book over the record's tables comes to.
use Rattle.std.proofs.Common.{[], ◌∙◌, ◌≡◌, ℕ, ◌<◌, ◌≤◌, List, length, refl, ap, subst, arith}
use Rattle.book.specs.Faults.{planner_number}
use Rattle.book.specs.Reading.{pairs_there}
use Rattle.book.specs.Sweeping.{Entered, Served, SweepRefused, unused}
use Rattle.book.specs.declared.added.Added.{Added}
use Rattle.book.specs.declared.book.Book.{Book}
use Rattle.book.specs.declared.fault.PlannerFault.{PlannerFault}
use Rattle.book.specs.declared.fault.PlannerFault.TheVariants.{NoSuchPlace, NoSuchSheet, NoSuchRow, SheetsFull, RowsFull, NoTrip, ForeignTable}
use Rattle.criteria.specs.Limit.{limit_meaning}
use Rattle.criteria.specs.Sum.{sum_meaning}
use Rattle.criteria.specs.declared.limit.Limit.{Limit}
use Rattle.criteria.specs.declared.limit.LimitValue.{LimitValue}
use Rattle.criteria.specs.declared.sum.Sum.{Sum}
use Rattle.criteria.specs.declared.sum.SumValue.{SumValue}
use Rattle.lines.specs.Text.{text}
use Rattle.lines.specs.declared.line.Line.TheVariants as line
use Rattle.roads.specs.Networks as network
use Rattle.roads.specs.declared.network.Network.{Network}
use Rattle.roads.specs.declared.road.Road.{Road}
use Rattle.rows.specs.declared.row.Row.{Row}
use Rattle.sweep.specs.Sweeps.{plan_of, Crowded}
use Rattle.trips.specs.Efficient.{UniqueRows}
use Rattle.trips.specs.Pages.{Page, Rows, all_rows}
use Rattle.printout.specs.Record.{CrowdedOut, Listed, by_load, places_text, by_time}

-- a new book on the network n, by the record's criteria, over a table of 1,024 rows
pub record New (n : Network) (k : Book Sum Limit) (rows : List (Row SumValue LimitValue)) : Type 0 where
  pub network : k.network ≡ n
  pub first : k.first.column.index ≡ 0
  pub second : k.second.column.index ≡ 2
  pub empty : k.sheets.items ≡ []
  pub unused_all : k.used ≡ 0
  pub long : length rows ≡ 1024

module _ (n : Network) (roads : List Road) (k : Book Sum Limit) (rows : List (Row SumValue LimitValue)) (new : New n k rows) where
  room_is : unused k rows ≡ 1024
  room_is = omega (arith, new.long, new.unused_all)

  module _ (k' : Book Sum Limit) (rows' : List (Row SumValue LimitValue)) (added : Added) (e : Entered (sum_meaning k.first.column.index) (limit_meaning k.second.column.index) k k' roads rows rows' 0 added) where
    -- by the record's criteria
    e' : Entered by_time by_load k k' roads rows rows' 0 added
    e' = subst (λ j. Entered by_time (limit_meaning j) k k' roads rows rows' 0 added) new.second (subst (λ i. Entered (sum_meaning i) (limit_meaning k.second.column.index) k k' roads rows rows' 0 added) new.first e)

    page : (p : ℕ) → Page by_time by_load (plan_of by_time by_load k.network roads 0) p (pairs_there k' rows' 0 p)
    page p = let first : added.sheet ≡ 0 = e.sheet ∙ ap length new.empty in rw first at e'.pages p

    module _ (unique : UniqueRows by_time by_load) where
      -- all places together have at most 1,024 rows
      pub few : all_rows by_time by_load (pairs_there k' rows' 0) n.places ≤ 1024
      few =
          let count : all_rows by_time by_load (pairs_there k' rows' 0) k.network.places ≡ added.rows = unique k.network.places (plan_of by_time by_load k.network roads 0) _ _ (record { pages = pairs_there k' rows' 0; each = λ p lt. page p; count = refl }) e'.number in
          subst (λ x. all_rows by_time by_load (pairs_there k' rows' 0) x.places ≤ 1024) new.network (omega (arith, count, e.fits, room_is))

      pub listed : Listed n roads (places_text (pairs_there k' rows' 0) n.places)
      listed = record {
        pages = pairs_there k' rows' 0;
        each = λ p lt. subst (λ x. Page by_time by_load (plan_of by_time by_load x roads 0) p (pairs_there k' rows' 0 p)) new.network (page p);
        room = few;
        lines = refl;
      }

  -- what holds of the book's criteria, network and room holds of the record's
  by_program : (P : ℕ → ℕ → Network → ℕ → Type 0) → P k.first.column.index k.second.column.index k.network (unused k rows) → P 0 2 n 1024
  by_program P h = rw (new.first, new.second, new.network, room_is) at h

  -- the tables serve a new book
  served : network.Serving n roads → Served (sum_meaning k.first.column.index) (limit_meaning k.second.column.index) k roads rows
  served h = record {
    by_roads = rw new.network h;
    by_rows = record { long = omega (arith, new.unused_all); each = λ i d lt. let none : length k.sheets.items ≡ 0 = ap length new.empty in absurd (omega arith) };
  }

  -- it is refused for want of rows, or not at all
  pub crowded_out : network.Serving n roads → (f : PlannerFault) → SweepRefused (sum_meaning k.first.column.index) (limit_meaning k.second.column.index) k roads rows 0 f → CrowdedOut n roads (text (line.Refused (planner_number f) 0))
  crowded_out h ForeignTable r = absurd (r (served h))
  crowded_out h NoSuchPlace r = absurd (omega (arith, r.1, k.network.some))
  crowded_out h SheetsFull r = let none : length k.sheets.items ≡ 0 = ap length new.empty in absurd (omega (arith, r.2))
  crowded_out h RowsFull r = record {
    crowded = by_program (λ i j x m. Crowded (sum_meaning i) (limit_meaning j) x roads 0 m) r.3;
    more = by_program (λ i j x m. (c : ℕ) → Rows (sum_meaning i) (limit_meaning j) x.places (plan_of (sum_meaning i) (limit_meaning j) x roads 0) c → m < c) r.4;
    line = refl;
  }
  crowded_out h NoSuchSheet r = absurd r
  crowded_out h NoSuchRow r = absurd r
  crowded_out h NoTrip r = absurd r
