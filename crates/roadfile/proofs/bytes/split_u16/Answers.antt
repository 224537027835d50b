use Rattle.std.proofs.Common.{rules}
use Rattle.roadfile.proofs.Numbers.{little_two}
use Rattle.roadfile.proofs.bytes.split_u16.Goals as goal

pub returns : goal.returns
returns c =
    let (first, behind, _) = rw c.unwrap.ensures at c.split_first_chunk.ensures.cases in
    little_two c.args.bytes.now _ _ c.from_le_bytes.result first behind c.requires (λ i. search (rules, c.type_inv.bytes i)) c.from_le_bytes.ensures
