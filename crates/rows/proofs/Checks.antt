-- The rows that a check has passed, one by one.
use Rattle.std.proofs.Common.{◌≡◌, ℕ, ◌+◌, ◌-◌, ◌<◌, ◌≤◌, min, Bool, true, false, ◌↔◌, List, length, get_or, take, MatchBool, HoldsAt, refl, Some, None, Option, nat_eq, Decides, sym, ap, ◌∙◌, subst, get_or-take, eqb-true, eq-eqb, arith}
use Rattle.std.specs.List.{AllWithin, range_with_len}
use Rattle.std.proofs.lemmas.List.FromFn.{get_or-range_with_len, length-range_with_len}
use Rattle.std.specs.Option.{option_eq}
use Rattle.std.proofs.lemmas.List.{length-take-le}
use Rattle.std.proofs.lemmas.Bool.{false≢true}
use Rattle.criteria.specs.Meaning.{Meaning}
use Rattle.rows.specs.declared.row.Row.{Row}
use Rattle.rows.specs.declared.sheet.Sheet.{Sheet}
use Rattle.rows.specs.Places.{RowAt}
use Rattle.rows.specs.declared.row.Source.{Source}
use Rattle.rows.specs.declared.row.Source.TheVariants.{Empty, Extend, Pair, Taken}
use Rattle.rows.specs.Sound.{Made, LawfulAt, SheetSound}
use Rattle.std.proofs.lemmas.Option.{none-some, same_Some}
use Rattle.rows.proofs.Sources.{same_row}

-- what the answer false decides
pub denied : {P : Type 0} → (P → ⊥) → Decides false P
denied f = (λ e. absurd (false≢true e), λ p. absurd (f p))

-- what a read past the end of a list of sheets would give
abbrev pub unread : Sheet
unread = record { origin = 0; reach = 0; start = 0; len = 0 }

-- a test of each sheet in turn decides whether it holds of all
pub all_decide : (P : Sheet → Type 0) (sheets : List Sheet) (r : Bool) → MatchBool r (AllWithin P sheets 0 (length sheets)) ((k : ℕ) × (k < length sheets) × HoldsAt (λ d. P d → ⊥) sheets k) → Decides r ((i : ℕ) (d : Sheet) → i < length sheets → P (get_or sheets i d))
all_decide P sheets true all = (λ _. λ i d lt. all i d (omega arith) lt, λ _. refl)
all_decide P sheets false (k, lt, fails) = denied (λ all. fails unread (all k unread lt))

-- whether a number is there and is that one
same_number : (o : Option ℕ) (n : ℕ) → Decides (option_eq nat_eq o (Some n)) (o ≡ Some n)
same_number None n = (λ e. absurd (false≢true e), λ e. absurd (none-some _ e))
same_number (Some m) n = (λ e. ap Some (eqb-true m n e), λ e. eq-eqb m n (same_Some _ _ e))

-- so whether it follows from a source
pub number_made : {V W : Type 0} (o : Option ℕ) (n roads k : ℕ) (t : List (Row V W)) (s : Source) → ((m : ℕ) → (o ≡ Some m) ↔ Made roads t k m s) → Decides (option_eq nat_eq o (Some n)) (Made roads t k n s)
number_made o n roads k t s f =
    let (told, tells) = same_number o n in
    (λ e. (f n).0 (told e), λ m. tells ((f n).1 m))

module _ {V W : Type 0} (t : List (Row V W)) (k : ℕ) (within : k ≤ length t) where
  -- the first k rows stand where they do in the table
  long : length (take k t) ≡ k
  long = length-take-le k t within

  row_in : (i : ℕ) (p : Row V W) → i < k → RowAt t i p → RowAt (take k t) i p
  row_in i p lt (_, is) = (omega (arith, long), λ d. get_or-take k t i d lt ∙ is d)

  row_out : (i : ℕ) (p : Row V W) → RowAt (take k t) i p → RowAt t i p
  row_out i p (lt, is) = (omega (arith, long), λ d. sym (get_or-take k t i d (omega (arith, long))) ∙ is d)

  -- so the number of roads of a row behind them follows from them as from the table
  pub made_cut : (roads n : ℕ) (s : Source) → Made roads (take k t) (length (take k t)) n s ↔ Made roads t k n s
  made_cut roads n Empty = (λ e. e, λ e. e)
  made_cut roads n (Extend i j) = (
    λ x. record { early = omega (arith, long, x.early); road = x.road; count = λ p at. x.count p (row_in i p (omega (arith, long, x.early)) at) },
    λ x. record { early = omega (arith, long, x.early); road = x.road; count = λ p at. x.count p (row_out i p at) },
  )
  made_cut roads n (Pair i j) = (
    λ x. record { early = omega (arith, long, x.early); later = omega (arith, long, x.later); count = λ p q at at'. x.count p q (row_in i p (omega (arith, long, x.early)) at) (row_in j q (omega (arith, long, x.later)) at') },
    λ x. record { early = omega (arith, long, x.early); later = omega (arith, long, x.later); count = λ p q at at'. x.count p q (row_out i p at) (row_out j q at') },
  )
  made_cut roads n (Taken i) = (
    λ x. record { early = omega (arith, long, x.early); count = λ p at. x.count p (row_in i p (omega (arith, long, x.early)) at) },
    λ x. record { early = omega (arith, long, x.early); count = λ p at. x.count p (row_out i p at) },
  )

-- what is known of the row that stands at an index is known of each that does
pub one_row : {V W : Type 0} (t : List (Row V W)) (k : ℕ) (r : Row V W) (P : Row V W → Type 0) (b : Bool) → RowAt t k r → Decides b (P r) → Decides b ((q : Row V W) → RowAt t k q → P q)
one_row t k r P b at (told, tells) = (λ e q at'. subst P (same_row t k r q at at') (told e), λ all. tells (all r at))

-- a test of each number of a range decides whether it holds of all
pub range_decides : (P : ℕ → Type 0) (from n : ℕ) (b : Bool) → MatchBool b (AllWithin P (range_with_len from n) 0 (length (range_with_len from n))) ((k : ℕ) × (k < length (range_with_len from n)) × HoldsAt (λ i. P i → ⊥) (range_with_len from n) k) → Decides b ((i : ℕ) → from ≤ i → i < from + n → P i)
range_decides P from n true all = (λ _ i low high. let k = i - from in let is : from + k ≡ i = omega arith in subst P (get_or-range_with_len from n k 0 (omega arith) ∙ is) (all k 0 (omega arith) (omega (arith, length-range_with_len from n))), λ _. refl)
range_decides P from n false (k, lt, fails) = denied (λ all. fails 0 (subst P (sym (get_or-range_with_len from n k 0 (omega (arith, length-range_with_len from n)))) (all (from + k) (omega arith) (omega (arith, length-range_with_len from n)))))

module _ {V W : Type 0} (a : Meaning V) (b : Meaning W) (places roads : ℕ) (table : List (Row V W)) where
  -- the rows of the sheet are those of a range, as far as the table has them
  pub sheet_decides : (s : Sheet) (e : ℕ) (r : Bool) → e ≡ min (s.start + s.len) (length table) → Decides r ((k : ℕ) → s.start ≤ k → k < s.start + (e - s.start) → LawfulAt a b places roads table s.reach k) → Decides r (SheetSound a b places roads table s)
  sheet_decides s e r is (told, tells) = (
    λ h. record { rows = λ k from below x at. told h k from (omega (arith, at.0)) x at },
    λ sound. tells (λ k from below. sound.rows k from (omega arith)),
  )
