use Rattle.std.proofs.Common.{◌≡◌, ◌+◌, ◌<◌, ◌≤◌, ◌∙◌, sym, subst, arith}
use Rattle.criteria.specs.Meaning.{most_roads}
use Rattle.book.specs.Sheets.{total, Following, Rooted, Reaching}
use Rattle.book.proofs.Sheets.{total_more, one_more, following_more}
use Rattle.book.proofs.book.Book.enter.Goals as goal

pub invariant_of-self : goal.invariant_of-self
invariant_of-self g c =
    let k = c.args.self.now in
    let s = c.args.sheet in
    let old = k.sheets.items in
    let is = sym c.push.ensures.items in
    record {
      sheets_fit = omega (arith, c.push.ensures.len, c.requires.room);
      used_fits = c.requires.few;
      used_is = omega (arith, subst (λ l. total l ≡ total old + s.len) is (total_more old s), k.used_is);
      following = subst Following is (following_more old s k.following (c.requires.start ∙ k.used_is));
      rooted = subst (Rooted k.network.places) is (one_more old s (λ _ x. x.origin < k.network.places) k.rooted c.requires.origin);
      reaching = subst Reaching is (one_more old s (λ _ x. x.reach ≤ most_roads) k.reaching c.requires.reach);
    }
