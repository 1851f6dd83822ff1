-- Splits that begin with others, and jobs on the nodes of their tree.
use Rattle.std.proofs.Common.{◌≡◌, ℕ, List, [], ◌∷◌, ◌++◌, map, take, drop, length, ℤ, true, refl, sym, ap, subst, ◌∙◌, arith, length-append}
use Rattle.std.proofs.lemmas.Bool.{and_from, and_parts}
use Rattle.std.proofs.lemmas.Bool.Decides.{Decides-eqb, Decides-int_eq}
use Rattle.std.proofs.lemmas.List.{map-append, take-append-drop}
use Rattle.row_model.specs.Trees as trees
use Rattle.box_space.specs.Views.{shown_split}
use Rattle.box_space.specs.declared.coordinates.Split.{Split}
use Rattle.box_space.specs.contracts.coordinates.SplitPartialEq.TheImpl.{eq-value}
use Rattle.std.specs.Prelude.{◌==◌, ◌&&◌}
use Rattle.std.proofs.Common.{int_eq}
use Rattle.work_units.specs.Units.{AreJobs}
use Rattle.work_units.specs.declared.job.Job.{Job}
use Rattle.gathered_run.specs.Gatherings.{BeginWith}

-- ---- splits as code holds them

abbrev held_split : trees.Split → Split
held_split s = record { leaf = s.leaf; coord = s.coord; cut = s.cut }

held_splits : (xs : List Split) → map held_split (map shown_split xs) ≡ xs
held_splits [] = refl
held_splits (x ∷ xs) = ap (λ (l : List Split). x ∷ l) (held_splits xs)

pub front-begins : (xs front : List Split) → front ≡ take (length front) xs → BeginWith (map shown_split xs) (map shown_split front)
front-begins xs front is =
    let rest = drop (length front) xs in (
      map shown_split rest,
      ap (map shown_split) (sym (take-append-drop (length front) xs)) ∙ map-append shown_split (take (length front) xs) rest
          ∙ ap (λ (l : List Split). map shown_split l ++ map shown_split rest) (sym is),
    )

take-front : (front rest : List Split) → take (length front) (front ++ rest) ≡ front
take-front [] rest = refl
take-front (x ∷ front) rest = ap (λ (l : List Split). x ∷ l) (take-front front rest)

pub begins-front : (xs front : List Split) → BeginWith (map shown_split xs) (map shown_split front) → front ≡ take (length front) xs
begins-front xs front (rest, is) =
    let all : xs ≡ front ++ map held_split rest =
    sym (held_splits xs) ∙ ap (map held_split) is ∙ map-append held_split (map shown_split front) rest
    ∙ ap (λ (l : List Split). l ++ map held_split rest) (held_splits front) in
    sym (take-front front (map held_split rest)) ∙ ap (take (length front)) (sym all)

-- ---- splits are compared field by field

parts-same : (x y : Split) → x.leaf ≡ y.leaf → x.coord ≡ y.coord → x.cut ≡ y.cut → x ≡ y
parts-same x y leaf coord cut =
    ap (λ (l : ℕ). record { leaf = l; coord = x.coord; cut = x.cut }) leaf ∙ ap (λ (k : ℕ). record { leaf = y.leaf; coord = k; cut = x.cut }) coord
    ∙ ap (λ (z : ℤ). record { leaf = y.leaf; coord = y.coord; cut = z }) cut

equal-itself : (x : Split) → eq-value.it x x ≡ true
equal-itself x =
    and_from (x.leaf == x.leaf) ((x.coord == x.coord) && int_eq x.cut x.cut) ((Decides-eqb x.leaf x.leaf).1 refl)
    (and_from (x.coord == x.coord) (int_eq x.cut x.cut) ((Decides-eqb x.coord x.coord).1 refl) ((Decides-int_eq x.cut x.cut).1 refl))

equal-same : (x y : Split) → eq-value.it x y ≡ true → x ≡ y
equal-same x y is =
    let leaf = and_parts (x.leaf == y.leaf) ((x.coord == y.coord) && int_eq x.cut y.cut) is in
    let coord = and_parts (x.coord == y.coord) (int_eq x.cut y.cut) leaf.1 in
    parts-same x y ((Decides-eqb x.leaf y.leaf).0 leaf.0) ((Decides-eqb x.coord y.coord).0 coord.0) ((Decides-int_eq x.cut y.cut).0 coord.1)

pub same-split : (x y : Split) → (eq-value.it x y ≡ true → x ≡ y) × (x ≡ y → eq-value.it x y ≡ true)
same-split x y = (equal-same x y, λ same. subst (λ (z : Split). eq-value.it x z ≡ true) same (equal-itself x))

-- ---- jobs

-- jobs on nodes of a tree are on nodes of each that goes on from it
pub jobs-on : (splits front : List trees.Split) (jobs : List Job) → BeginWith splits front → AreJobs front jobs → AreJobs splits jobs
jobs-on splits front jobs (rest, is) jobs_are = record {
  numbered = jobs_are.numbered;
  there = λ k lt. omega (arith, jobs_are.there k lt, ap length is, length-append front rest);
  apart = jobs_are.apart;
}
