use Rattle.trips.proofs.Thinned.{pool_page, series_page}
use Rattle.trips.proofs.pages_combine.Goals as goal

pub returns : goal.returns
returns g c = record {
  pool = pool_page c.laws_stand.ensures c.laws_stand-2.ensures;
  series = series_page c.laws_stand.ensures c.laws_stand-2.ensures;
}
