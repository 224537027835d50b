use Rattle.trips.proofs.Groupings.{regrouped_trips, regrouped_page}
use Rattle.trips.proofs.regrouping_changes_nothing.Goals as goal

pub returns : goal.returns
returns g c = record {
  trips = regrouped_trips;
  pages = regrouped_page c.laws_stand.ensures c.laws_stand-2.ensures;
}
