-- What the frontier of a sweep holds, place by place.
use Rattle.std.specs.Prelude.{◌≡◌, ℕ, ◌+◌, ◌<◌, ◌≤◌, Bool, true, false, ◌⊎◌, List, length, take, Some, None, MatchBool, Ok, Err, Option, Result, ◌≢◌, slice_index_or, slice_set}
use Rattle.criteria.specs.Meaning.{Meaning, Strict, Laws}
use Rattle.roads.specs.Tables.{Within}
use Rattle.roads.specs.declared.road.Road.{Road}
use Rattle.rows.specs.declared.row.Row.{Row}
use Rattle.rows.specs.declared.row.Source.TheVariants.{Extend}
use Rattle.rows.specs.Places.{RowAt, pair_of}
use Rattle.trips.specs.Plans.{Numbered}
use Rattle.growth.specs.Growing.{Ahead, Extends, Fresh, Next}
use Rattle.growth.specs.Grown.{Grown}

module _ {V W : Type 0} where
  -- of the first n rows, the last that ends at the place
  abbrev pub Latest : List (Row V W) → ℕ → ℕ → Option ℕ → Type 0
  Latest rs n place None = (i : ℕ) (r : Row V W) → i < n → RowAt rs i r → r.end ≢ place
  Latest rs n place (Some k) = (k < n) × ((r : Row V W) → RowAt rs k r → r.end ≡ place) × ((i : ℕ) (r : Row V W) → i < n → RowAt rs i r → r.end ≡ place → i ≤ k)

  -- the last row at each place, and for each row the last one before it at its place
  pub record Linked (rs : List (Row V W)) (last prev : List (Option ℕ)) : Type 0 where
    pub latest : (p : ℕ) → p < 2048 → Latest rs (length rs) p (slice_index_or last p None)
    pub before : (i : ℕ) (r : Row V W) → RowAt rs i r → Latest rs i r.end (slice_index_or prev i None)

  -- the row of index k, where there is one, is at least as good as q by the second criterion, or q is strictly better
  abbrev pub Shown : Meaning W → List (Row V W) → Row V W → Option ℕ → Bool → Type 0
  Shown b rs q None r = r ≡ false
  Shown b rs q (Some k) r = (p : Row V W) → RowAt rs k p → MatchBool r (b.good p.second q.second) (Strict b.good q.second p.second)

  -- the place holds the row
  abbrev pub Holds : List (Option (Row V W)) → ℕ → Row V W → Type 0
  Holds best place c = slice_index_or best place None ≡ Some c

module _ {V W : Type 0} (a : Meaning V) (b : Meaning W) where
  -- r is the row p with the road q behind it; from and number are what its source names
  pub record Built (p : Row V W) (q : Road) (from number : ℕ) (r : Row V W) : Type 0 where
    pub ends : r.end ≡ q.end
    pub first : r.first ≡ a.join p.first (a.value q.marks)
    pub second : r.second ≡ b.join p.second (b.value q.marks)
    pub longer : r.roads ≡ p.roads + 1
    pub source : r.source ≡ Extend from number

  -- its values pass the test for its number of roads
  pub record Passing (r : Row V W) : Type 0 where
    pub first : a.passes r.roads r.first
    pub second : b.passes r.roads r.second

  -- and that number is less than 2,048
  pub record Tested (r : Row V W) : Type 0 where
    pub passing : Passing r
    pub few : r.roads < 2048

  module _ (roads : List Road) (base : ℕ) (rs : List (Row V W)) where
    -- of the uncovered extensions into a place that have been seen, by row and road, the best is held, or there is none
    pub record Held (best : List (Option (Row V W))) (seen : ℕ → ℕ → Type 0) (place : ℕ) : Type 0 where
      pub right : (c : Row V W) → Holds best place c → Fresh a b roads base rs c × (c.end ≡ place) × Passing c
      pub first : (q : Row V W) (f : Fresh a b roads base rs q) → seen f.index f.number → q.end ≡ place → (c : Row V W) × Holds best place c × Ahead a b (pair_of c) (pair_of q)

  -- what a sweep rests on: rows that were grown, over roads of a network of at most 2,048 places
  pub record Standing (roads : List Road) (base : ℕ) (rs : List (Row V W)) : Type 0 where
    pub first_laws : Laws a
    pub second_laws : Laws b
    pub places : ℕ
    pub origin : ℕ
    pub grown : (front : List (Row V W)) → length front ≡ base → Grown a b roads origin front rs
    pub tested : (i : ℕ) (p : Row V W) → RowAt rs i p → Tested p
    pub named : (i : ℕ) (r : Road) → Numbered roads i r → Within places r
    pub inside : origin < places
    pub small : places ≤ 2048
    pub some : 0 < length rs
    pub room : base + length rs ≤ 65536
    pub counted : length roads ≤ 16384

  -- what is held at the place of q is as good as q
  pub record Outdone (q : Row V W) (best : List (Option (Row V W))) : Type 0 where
    pub row : Row V W
    pub held : Holds best q.end row
    pub ahead : Ahead a b (pair_of row) (pair_of q)

  -- q is as good as what is held at its place, if anything is
  pub record Foremost (q : Row V W) (best : List (Option (Row V W))) : Type 0 where
    pub ahead : (c : Row V W) → Holds best q.end c → Ahead a b (pair_of q) (pair_of c)

  -- the extension q was offered to the frontier, which then held best'; `last` is the last row at its place:
  -- that row shadows q, or what was held is as good, or q is held now
  pub data Weighed (rs : List (Row V W)) (q : Row V W) (last : Option ℕ) (best best' : List (Option (Row V W))) : Type 0 where
    shadowed : best' ≡ best → Shown b rs q last true → Weighed rs q last best best'
    outdone : best' ≡ best → Shown b rs q last false → Outdone q best → Weighed rs q last best best'
    held : best' ≡ slice_set best q.end (Some q) → Shown b rs q last false → Foremost q best → Weighed rs q last best best'

  -- the row of index i with road j behind it was offered
  pub record Tried (roads : List Road) (base : ℕ) (rs : List (Row V W)) (i j : ℕ) (last : List (Option ℕ)) (best best' : List (Option (Row V W))) : Type 0 where
    pub row : Row V W
    pub road : Road
    pub next : Row V W
    pub extends : Extends a b roads base rs i row j road next
    pub within : next.end < 2048
    pub passing : Passing next
    pub weighed : Weighed rs next (slice_index_or last next.end None) best best'

  -- road j may be driven behind row i
  pub record Follows (roads : List Road) (rs : List (Row V W)) (i j : ℕ) : Type 0 where
    pub row : i < length rs
    pub road : j < length roads
    pub meets : (p : Row V W) (r : Road) → RowAt rs i p → Numbered roads j r → (r.«open» ≡ true) × (r.start ≡ p.end)

  -- road j is open and ends at the place
  abbrev pub Enters : List Road → ℕ → ℕ → Type 0
  Enters roads j place = (j < length roads) × ((r : Road) → Numbered roads j r → (r.«open» ≡ true) × (r.end ≡ place))

  -- all places but one hold what they held
  pub record Kept (place : ℕ) (best best' : List (Option (Row V W))) : Type 0 where
    pub row : (p : ℕ) → (p ≢ place) → slice_index_or best' p None ≡ slice_index_or best p None
    pub rows : length best' ≡ length best

  -- a row was added at the place, and its index is newest; the roads before j have been seen again:
  -- every place holds the best of the extensions by those roads, and other places of those of older rows by every road
  abbrev pub Renewed : List Road → ℕ → List (Row V W) → ℕ → ℕ → List (Option (Row V W)) → ℕ → Type 0
  Renewed roads base rs place newest best j = (p : ℕ) → p < 2048 → Held roads base rs best (λ i k. (k < j) ⊎ ((p ≢ place) × (i < newest))) p

  -- the newest row ends at the place
  pub record Newest (rs : List (Row V W)) (newest place : ℕ) : Type 0 where
    pub last : newest + 1 ≡ length rs
    pub ends : (p : Row V W) → RowAt rs newest p → p.end ≡ place
    pub low : place < 2048

  -- linked rows of a sweep, the newest at the place, and the roads before j seen again
  pub record Seeing (roads : List Road) (base : ℕ) (rs : List (Row V W)) (last prev : List (Option ℕ)) (best : List (Option (Row V W))) (newest place j : ℕ) : Type 0 where
    pub standing : Standing roads base rs
    pub linked : Linked rs last prev
    pub sized : length best ≡ 2048
    pub added : Newest rs newest place
    pub within : j < length roads
    pub renewed : Renewed roads base rs place newest best j

  -- every place holds the best of all uncovered extensions into it, or there is none
  abbrev pub Ready : List Road → ℕ → List (Row V W) → List (Option (Row V W)) → Type 0
  Ready roads base rs best = (p : ℕ) → p < 2048 → Held roads base rs best (λ _ _. Unit {0}) p

  -- the same of the extensions of the rows before the newest, at every place but one
  abbrev pub Older : List Road → ℕ → List (Row V W) → ℕ → ℕ → List (Option (Row V W)) → Type 0
  Older roads base rs place newest best = (p : ℕ) → p < 2048 → (p ≢ place) → Held roads base rs best (λ i _. i < newest) p

  -- what the first n places hold: the row is the best of it, or they hold nothing
  abbrev pub Chosen : ℕ → List (Option (Row V W)) → Option (Row V W) → Type 0
  Chosen n best None = (p : ℕ) → p < n → slice_index_or best p None ≡ None
  Chosen n best (Some c) = ((k : ℕ) × (k < n) × Holds best k c) × ((p : ℕ) (d : Row V W) → p < n → Holds best p d → Ahead a b (pair_of c) (pair_of d))

  -- a sweep that stands between two rows: the rows so far, the links and what every place holds
  pub record Searching (roads : List Road) (places origin base : ℕ) (rs : List (Row V W)) (best : List (Option (Row V W))) (last prev : List (Option ℕ)) : Type 0 where
    pub standing : Standing roads base rs
    pub same_places : standing.places ≡ places
    pub same_origin : standing.origin ≡ origin
    pub linked : Linked rs last prev
    pub ready : Ready roads base rs best

  -- what a sweep from an origin needs to know: the criteria keep their laws, and the network is within its bounds
  pub record Founded (roads : List Road) (places origin base room : ℕ) : Type 0 where
    pub first_laws : Laws a
    pub second_laws : Laws b
    pub named : (i : ℕ) (r : Road) → Numbered roads i r → Within places r
    pub inside : origin < places
    pub small : places ≤ 2048
    pub counted : length roads ≤ 16384
    pub fits : base + room ≤ 65536

  -- rows of a sweep from that origin over those places
  pub record Grew (roads : List Road) (places origin base : ℕ) (rs : List (Row V W)) : Type 0 where
    pub standing : Standing roads base rs
    pub same_places : standing.places ≡ places
    pub same_origin : standing.origin ≡ origin

  -- a sweep over a whole table ended with n rows and nothing left to add, or filled the table with a row left over
  abbrev pub Searched : {E : Type 0} → List Road → ℕ → ℕ → ℕ → List (Row V W) → Result ℕ E → Type 0
  Searched roads places origin base table (Ok n) = (n ≤ length table) × (Grew roads places origin base (take n table) × ((z : Row V W) → Fresh a b roads base (take n table) z → ⊥))
  Searched roads places origin base table (Err _) = (length table ≡ 0) ⊎ (Grew roads places origin base table × ((c : Row V W) × Next a b roads base table c))
