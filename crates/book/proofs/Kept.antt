-- The sheets of a book stay sound where rows are written behind those in use.
use Rattle.std.proofs.Common.{◌≡◌, ℕ, ◌+◌, ◌<◌, ◌≤◌, List, [], ◌∷◌, length, get_or, take, drop, sym, ap, ◌∙◌, arith}
use Rattle.std.proofs.lemmas.List.{get_or-take, take-append-drop, take_more}
use Rattle.criteria.specs.Meaning.{Meaning}
use Rattle.rows.specs.declared.row.Row.{Row}
use Rattle.rows.specs.declared.sheet.Sheet.{Sheet}
use Rattle.rows.specs.Places.{RowAt}
use Rattle.rows.specs.Sound.{SheetSound}
use Rattle.growth.proofs.Tables.{made_kept}
use Rattle.book.specs.Sheets.{total, Following}
use Rattle.book.proofs.Sheets.{total-++}

module _ {V W : Type 0} (t t' : List (Row V W)) (n : ℕ) (same : take n t' ≡ take n t) (low : n ≤ length t) where
  -- a row in use stood there before
  pub row_kept : (k : ℕ) (r : Row V W) → k < n → RowAt t' k r → RowAt t k r
  row_kept k r lt (_, e) = (omega arith, λ d. sym (get_or-take n t k d lt) ∙ ap (λ l. get_or l k d) (sym same) ∙ get_or-take n t' k d lt ∙ e d)

  -- a sheet of rows in use stays sound
  pub sheet_kept : (a : Meaning V) (b : Meaning W) (places roads : ℕ) (s : Sheet) → s.start + s.len ≤ n → SheetSound a b places roads t s → SheetSound a b places roads t' s
  sheet_kept a b places roads s within h = record {
    rows = λ k from to r at.
        let old = h.rows k from to r (row_kept k r (omega arith) at) in
        record { fits = old.fits; made = made_kept roads t t' k r.roads r.source (λ i p lt. row_kept i p (omega arith)) old.made };
  }

-- each sheet ends within the rows of all of them
pub ends_within : (sheets : List Sheet) (i : ℕ) (d : Sheet) → Following sheets → i < length sheets → (get_or sheets i d).start + (get_or sheets i d).len ≤ total sheets
ends_within sheets i d follows lt =
    let split = ap total (sym (take-append-drop (i + 1) sheets)) ∙ total-++ (take (i + 1) sheets) (drop (i + 1) sheets) in
    let one = ap total (take_more sheets i d lt) ∙ total-++ (take i sheets) (get_or sheets i d ∷ []) in
    omega (arith, follows i d lt)
