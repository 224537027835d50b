use Rattle.std.proofs.Common.{◌≡◌, [], Some, None, Ok, subst}
use Rattle.roadfile.specs.Reading.{Handed, left_of}
use Rattle.roadfile.proofs.Progress.{start, more, closes}
use Rattle.roadfile.proofs.loading.load.Goals as goal
use Rattle.roadfile.proofs.loading.load.Goals.{In-Some, In_default}

-- what the reader answered where it handed out a record, and where it handed out none
some : (c : In-Some) → Handed c.loop-item.reader (Ok (Some c.in-Some.item)) c.next.new.self
some c = subst (λ o. Handed c.loop-item.reader (Ok o) c.next.new.self) c.in-Some.is c.in_ok-item.ensures

none : (c : In_default) → Handed c.loop-item.reader (Ok None) c.next.new.self
none c = subst (λ o. Handed c.loop-item.reader (Ok o) c.next.new.self) c.in_default.is c.in_ok-item.ensures

pub loop-item-init : goal.loop-item-init
loop-item-init c = start c.args.file.now c.args.table.now _ _ c.in_ok-reader.ensures c.new-draft.ensures.places c.new-draft.ensures.roads

pub loop-item-preserved : goal.loop-item-preserved
loop-item-preserved c =
    more _ _ _ _ _ _ c.loop-item.invariant c.in-Some.item c.next.new.self c.add_item.new.draft c.add_item.new.table (some (goal.at.loop-item-preserved c).In-Some) c.in_ok-add_item.ensures

pub returns : goal.returns
returns c =
    let (off, same) = none (goal.at.returns c).In_default in
    closes _ _ _ _ _ _ c.loop-item.invariant _ _ off (subst (λ s. left_of s ≡ []) same c.in_ok-finish.ensures) c.close.ensures
