-- The lines of rows and places, one more.
use Rattle.std.proofs.Common.{◌≡◌, ℕ, zero, suc, ◌+◌, ◌<◌, ◌≤◌, List, [], ◌∷◌, ◌++◌, map, length, get_or, take, sym, refl, ap, ◌∙◌, subst, ⊎_elim, append_assoc, append-nil, arith}
use Rattle.std.proofs.lemmas.Bool.{cases_lt}
use lib.ListN.{length-map}
use Rattle.std.proofs.lemmas.List.{get_or-map, take_more}
use Rattle.criteria.specs.declared.limit.LimitValue.{LimitValue}
use Rattle.criteria.specs.declared.sum.SumValue.{SumValue}
use Rattle.rows.specs.Places.{RowAt, pair_of}
use Rattle.rows.specs.declared.row.Row.{Row}
use Rattle.trips.specs.Pages.{all_rows}
use Rattle.printout.specs.Record.{Pair, by_load, row_text, rows_text, by_time}

rows_text-++ : (xs ys : List Pair) → rows_text (xs ++ ys) ≡ rows_text xs ++ rows_text ys
rows_text-++ [] ys = refl
rows_text-++ (x ∷ xs) ys = ap (λ l. row_text x ++ l) (rows_text-++ xs ys) ∙ sym (append_assoc (row_text x) (rows_text xs) (rows_text ys))

-- the lines of one row more
rows_text_more : (rows : List (Row SumValue LimitValue)) (i : ℕ) (x : Row SumValue LimitValue) → RowAt rows i x → rows_text (take (i + 1) (map pair_of rows)) ≡ rows_text (take i (map pair_of rows)) ++ row_text (pair_of x)
rows_text_more rows i x (low, is) =
    let pairs = map pair_of rows in
    let here : get_or pairs i (pair_of x) ≡ pair_of x = get_or-map pair_of rows i x (pair_of x) low ∙ ap pair_of (is x) in
    ap rows_text (take_more pairs i (pair_of x) (omega (arith, length-map rows pair_of))) ∙
    rows_text-++ (take i pairs) (get_or pairs i (pair_of x) ∷ []) ∙
    ap (λ l. rows_text (take i pairs) ++ l) (append-nil (row_text (get_or pairs i (pair_of x)))) ∙
    ap (λ p. rows_text (take i pairs) ++ row_text p) here

-- a text that ends with those lines, and the line of one row more
pub row_more : (rows : List (Row SumValue LimitValue)) (i : ℕ) (x : Row SumValue LimitValue) (out : List ℕ) → RowAt rows i x → (out ++ rows_text (take i (map pair_of rows))) ++ row_text (pair_of x) ≡ out ++ rows_text (take (i + 1) (map pair_of rows))
row_more rows i x out at = append_assoc out (rows_text (take i (map pair_of rows))) (row_text (pair_of x)) ∙ ap (λ l. out ++ l) (sym (rows_text_more rows i x at))

-- one place more has no more rows than all have together
pub rows_below : (pages : ℕ → List Pair) (p n : ℕ) → p < n → all_rows by_time by_load pages p + length (pages p) ≤ all_rows by_time by_load pages n
rows_below pages p zero low = absurd (omega arith)
rows_below pages p (suc n) low = ⊎_elim
    (λ below. let h = rows_below pages p n below in omega arith)
    (λ high. let same : n ≡ p = omega arith in subst (λ m. all_rows by_time by_load pages p + length (pages p) ≤ all_rows by_time by_load pages m + length (pages m)) (sym same) (omega arith))
    (cases_lt p n)
