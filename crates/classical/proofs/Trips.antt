-- Trips over roads and paths over them are the same.
use Rattle.std.proofs.Common.{◌≡◌, ℕ, false, List, [], ◌∷◌, map, get_or, sym, refl, ap, ◌∙◌}
use Rattle.paths.specs.Objectives.{mark_of, marks_on}
use Rattle.paths.specs.Paths.{Path}
use Rattle.roads.specs.declared.road.Road.{Road}
use Rattle.trips.specs.Plans.{Drivable, Drives}
use Rattle.trips.specs.Trips.{Use}

-- the path of a trip
abbrev pub path_of : List Use → List ℕ
path_of us = map (λ u. u.road) us

-- the trip over a path, with the marks that its roads have
abbrev pub uses_on : List Road → List ℕ → List Use
uses_on roads path = map (λ i. record { road = i; marks = (get_or roads i (record { start = 0; end = 0; marks = []; «open» = false })).marks }) path

-- the marks of that column along a trip
abbrev pub marks_of : ℕ → List Use → List ℕ
marks_of column us = map (λ u. get_or u.marks column 0) us

pub path_of_uses : (roads : List Road) (path : List ℕ) → path_of (uses_on roads path) ≡ path
path_of_uses roads [] = refl
path_of_uses roads (i ∷ path) = let rest = path_of_uses roads path in (λ k. i ∷ rest k)

pub drives_path : (roads : List Road) (s : ℕ) (us : List Use) (e : ℕ) → Drives roads s us e → Path roads s (path_of us) e
drives_path roads s [] e h = h
drives_path roads s (u ∷ us) e (r, (d, rest)) =
    (r, (record { within = d.numbered.0; is = d.numbered.1; free = d.free; starts = d.starts }, drives_path roads r.end us e rest))

pub path_drives : (roads : List Road) (s : ℕ) (path : List ℕ) (e : ℕ) → Path roads s path e → Drives roads s (uses_on roads path) e
path_drives roads s [] e h = h
path_drives roads s (i ∷ path) e (r, (l, rest)) =
    (r, (record { numbered = (l.within, l.is); free = l.free; same = ap (λ (o : Road). o.marks) (l.is _); starts = l.starts }, path_drives roads r.end path e rest))

pub mark_is : (roads : List Road) (s column : ℕ) (u : Use) (r : Road) → Drivable roads s u r → get_or u.marks column 0 ≡ mark_of roads column u.road
mark_is roads s column u r d = ap (λ o. get_or o column 0) d.same ∙ sym (ap (λ (o : Road). get_or o.marks column 0) (d.numbered.1 _))

-- a trip has the marks of its path
pub marks_are : (roads : List Road) (column s : ℕ) (us : List Use) (e : ℕ) → Drives roads s us e → marks_of column us ≡ marks_on roads column (path_of us)
marks_are roads column s [] e h = refl
marks_are roads column s (u ∷ us) e (r, (d, rest)) =
    let here = mark_is roads s column u r d in
    let further = marks_are roads column r.end us e rest in
    (λ k. here k ∷ further k)
