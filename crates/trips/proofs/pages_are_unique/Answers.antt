use Rattle.trips.proofs.Pages.{same_page, unique_page}
use Rattle.trips.proofs.pages_are_unique.Goals as goal

pub returns : goal.returns
returns g c = record {
  same = same_page c.laws_stand.ensures c.laws_stand-2.ensures;
  unique = unique_page c.laws_stand.ensures c.laws_stand-2.ensures;
}
