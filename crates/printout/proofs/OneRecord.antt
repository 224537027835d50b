-- The definition of a record leaves no choice.
use Rattle.std.proofs.Common.{◌≡◌, ℕ, zero, suc, ◌-◌, ◌<◌, List, ◌++◌, length, take, replicate, Ok, Err, Result, sym, refl, ap, ◌∙◌, subst, ⊎_elim, arith}
use Rattle.lines.specs.Text.{text}
use Rattle.lines.specs.declared.line.Line.TheVariants as line
use Rattle.roadfile.specs.Faults.{file_number}
use Rattle.roadfile.specs.Outcome.{OneOutcome, Same}
use Rattle.roadfile.specs.declared.fault.LoadFault.{LoadFault}
use Rattle.roads.specs.declared.network.Network.{Network}
use Rattle.roads.specs.declared.road.Road.{Road}
use Rattle.sweep.specs.Sweeps.{plan_of}
use Rattle.trips.specs.Pages.{Page, Rows, all_rows}
use Rattle.trips.specs.Plans.{swept}
use Rattle.trips.specs.SamePages.{UniquePage}
use Rattle.printout.specs.Record.{Answered, CrowdedOut, Listed, Loads, OneRecord, Pair, Says, blank, by_load, place_text, places_text, by_time}

-- places with the same pages have the same lines
lines_same : (f g : ℕ → List Pair) (n : ℕ) → ((p : ℕ) → p < n → f p ≡ g p) → places_text f n ≡ places_text g n
lines_same f g zero h = refl
lines_same f g (suc n) h = ap (λ l. l ++ place_text n (f n)) (lines_same f g n (λ p lt. h p (omega arith))) ∙ ap (λ l. places_text g n ++ place_text n l) (h n (omega arith))

module _ (unique : UniquePage by_time by_load) (roads : List Road) (n m : Network) (places : n.places ≡ m.places) (counts : n.roads ≡ m.roads) where
  -- the sweeps are the same
  plans : plan_of by_time by_load n roads 0 ≡ plan_of by_time by_load m roads 0
  plans = ap (λ x. swept x (take n.roads roads) 0) places ∙ ap (λ x. swept m.places (take x roads) 0) counts

  listed_same : (o p : List ℕ) → Listed n roads o → Listed m roads p → o ≡ p
  listed_same o p l k =
      l.lines ∙
      lines_same l.pages k.pages n.places (λ q lt. unique (plan_of by_time by_load m roads 0) q (l.pages q) (k.pages q) (subst (λ x. Page by_time by_load x q (l.pages q)) plans (l.each q lt)) (k.each q (omega (arith, places)))) ∙
      ap (places_text k.pages) places ∙
      sym k.lines

  -- a sweep that fits is not crowded out
  listed_fits : (o p : List ℕ) → Listed n roads o → CrowdedOut m roads p → ⊥
  listed_fits o p l k =
      let count = all_rows by_time by_load l.pages n.places in
      let number : Rows by_time by_load n.places (plan_of by_time by_load n roads 0) count = record { pages = l.pages; each = l.each; count = refl } in
      let here = subst (λ x. Rows by_time by_load x (plan_of by_time by_load m roads 0) count) places (subst (λ x. Rows by_time by_load n.places x count) plans number) in
      omega (arith, k.more count here, l.room)

answered_same : UniquePage by_time by_load → (roads : List Road) (r q : Result Network LoadFault) (o p : List ℕ) → Same r q → Answered r roads o → Answered q roads p → o ≡ p
answered_same unique roads (Ok n) (Ok m) o p (places, counts) x y =
    ⊎_elim
    (λ l. ⊎_elim (λ k. listed_same unique roads n m places counts o p l k) (λ k. absurd (listed_fits unique roads n m places counts o p l k)) y)
    (λ l. ⊎_elim (λ k. absurd (listed_fits unique roads m n (sym places) (sym counts) p o k l)) (λ k. l.line ∙ sym k.line) y)
    x
answered_same unique roads (Ok n) (Err g) o p s x y = absurd s
answered_same unique roads (Err f) (Ok m) o p s x y = absurd s
answered_same unique roads (Err f) (Err g) o p (faults, offsets) x y = x ∙ ap (λ z. text (line.Refused (file_number z) f.offset)) faults ∙ ap (λ z. text (line.Refused (file_number g.fault) z)) offsets ∙ sym y

loads_same : UniquePage by_time by_load → OneOutcome → (file o p : List ℕ) → Loads file o → Loads file p → o ≡ p
loads_same unique outcome file o p l k =
    let (answers, tables) = outcome file (replicate 1024 blank) l.answer k.answer l.after k.after l.loaded k.loaded in
    answered_same unique k.after l.answer k.answer o p answers (subst (λ t. Answered l.answer t o) tables l.answered) k.answered

says_same : UniquePage by_time by_load → OneOutcome → (file o p : List ℕ) → Says file o → Says file p → o ≡ p
says_same unique outcome file o p x y =
    ⊎_elim
    (λ (long, l). ⊎_elim (λ (_, k). l ∙ sym k) (λ (short, _). absurd (omega arith)) y)
    (λ (short, l). ⊎_elim (λ (long, _). absurd (omega arith)) (λ (_, k). loads_same unique outcome file o p l k) y)
    x

pub one_record_lem : UniquePage by_time by_load → OneOutcome → OneRecord
one_record_lem unique outcome file t u m n x y =
    let same = says_same unique outcome file x.out y.out x.says y.says in
    let v = x.written in
    let w = y.written in
    (v.bytes ∙ ap (λ l. l ++ replicate (147456 - length l) 0) same ∙ sym w.bytes, v.count ∙ ap length same ∙ sym w.count)
