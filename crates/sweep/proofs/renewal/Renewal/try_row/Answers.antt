use Rattle.std.proofs.Common.{◌<◌, get_or, rules}
use Rattle.roads.proofs.Changes.{unread}
use Rattle.rows.proofs.Sources.{read_at}
use Rattle.frontiers.proofs.Offers.{road_read, ends_low, tried_by}
use Rattle.sweep.proofs.renewal.Renewal.try_row.Given as given
use Rattle.sweep.proofs.renewal.Renewal.try_row.Goals as goal
use Rattle.sweep.proofs.renewal.Renewal.try_row.Goals.{After-extension-q}

pub extension-q-requires : goal.extension-q-requires
extension-q-requires g c =
    let rs = c.args.self.now.rows.now in
    c.requires.standing.tested c.args.i (get_or rs c.args.i c.index-self-i.result) (read_at rs c.args.i c.index-self-i.result c.requires.follows.row)

-- the new row ends at a place of the network
low : (g : given.Over) (c : After-extension-q g) → c.extension-q.result.end < 2048
low g c =
    let s = c.args.self.now in
    ends_low (g.A.Criterion.meaning s.first.now) (g.B.Criterion.meaning s.second.now) s.roads.now s.base s.rows.now c.args.j _ _ (get_or s.rows.now c.args.i c.index-self-i.result) (get_or s.roads.now c.args.j unread) c.extension-q.result c.requires.standing (road_read s.roads.now c.args.j unread c.requires.follows.road) c.extension-q.ensures.built

pub offer-requires : goal.offer-requires
offer-requires g c = (search rules, low g (goal.at.offer-requires g c).After-extension-q)

pub returns : goal.returns
returns g c =
    let s = c.args.self.now in
    tried_by (g.A.Criterion.meaning s.first.now) (g.B.Criterion.meaning s.second.now) s.roads.now s.base s.rows.now c.args.i c.args.j (get_or s.rows.now c.args.i c.index-self-i.result) (get_or s.roads.now c.args.j unread) c.extension-q.result s.links.now.last c.args.best.now.rows c.offer.new.best.rows c.requires.follows
    (read_at s.rows.now c.args.i c.index-self-i.result c.requires.follows.row) (road_read s.roads.now c.args.j unread c.requires.follows.road) c.extension-q.ensures.built (low g (goal.at.returns g c).After-extension-q) c.extension-q.ensures.passing c.offer.ensures
