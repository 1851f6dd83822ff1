use Rattle.std.proofs.Common.{◌≡◌, ◌+◌, ◌-◌, ◌/◌, ◌<◌, ◌++◌, ◌∷◌, [], List, length, set, Bool, true, false, map, ap, sym, subst, arith, rules}
use Rattle.std.proofs.lemmas.Grind.{common_steps}
use Rattle.std.specs.Box.{with_value}
use Rattle.map_versions.specs.Versions.{Versions, IsChanged}
use Rattle.row_model.specs.Trees.{Split, split_at, nodes, most_splits}
use Rattle.box_space.specs.Views.{shown_split}
use Rattle.split_tree.specs.contracts.splits.SplitTree.{the_view}
use Rattle.split_tree.specs.Cuts.{AreMapped}
use Rattle.split_tree.specs.Splits.{Splits, with_split, IsOf, AreKept}
use Rattle.split_tree.proofs.Finding.{mapped-after}
use Rattle.split_tree.specs.declared.span.Span.{Span}
use Rattle.split_tree.proofs.Pushed.{pushed-of, kept-more}
use Rattle.split_tree.proofs.splits.SplitTree.push.Goals as goal

pub returns-clause-tree : goal.returns-clause-tree
returns-clause-tree c =
    let made : the_view record {
      splits = c.push_reserved.new.self;
      spans = c.push_reserved-2.new.self;
      cuts = c.push_reserved-4.new.self;
      maps = with_value c.self.inside.maps c.add_map.new.maps;
      alloc =
          c.self.inside.alloc;
    } ≡ with_split c.args.self.now (shown_split c.args.split) c.args.span = grind (arith, common_steps) in
    λ n is cuts ends. subst (λ (t : Splits). IsOf n t) (sym made) (pushed-of n c.args.self.now (shown_split c.args.split) c.args.span is c.requires.few cuts ends)

pub invariant_of-self-2 : goal.invariant_of-self-2
invariant_of-self-2 c =
    let held = map shown_split c.self.inside.splits.items in
    let s = shown_split c.args.split in
    let more : map shown_split c.push_reserved.new.self.items ≡ held ++ s ∷ [] = first_of (search rules, grind (arith, common_steps)) in
    let seen : map shown_split c.as_slice.result.now ≡ held = first_of (search rules, grind (arith, common_steps)) in
    let there : s.leaf < nodes held = subst (λ (xs : List Split). s.leaf < nodes xs) (sym (ap (λ (v : Splits). v.list) c.self.view_is)) c.requires.leaf in
    let was_maps = c.deref_mut.result.now in
    let mapped : AreMapped held was_maps = subst (λ (m : Versions). AreMapped held m) (sym c.deref_mut.ensures.value) c.self.invariant.1 in
    let half : 0 < s.leaf → IsChanged was_maps c.add_map.new.maps ((s.leaf - 1) / 2 + 1) (split_at held ((s.leaf - 1) / 2)).coord s.leaf =
    subst (λ (xs : List Split). 0 < s.leaf → IsChanged was_maps c.add_map.new.maps ((s.leaf - 1) / 2 + 1) (split_at xs ((s.leaf - 1) / 2)).coord s.leaf) seen
    c.in_ok-add_map.ensures.half in
    let spans : c.push_reserved-2.new.self.items ≡ c.self.inside.spans.items ++ c.args.span ∷ [] = first_of (search rules, grind (arith, common_steps)) in
    let marks : c.push_reserved-4.new.self.items ≡ (set c.self.inside.cuts.items s.leaf true ++ false ∷ []) ++ false ∷ [] = first_of (search rules, grind (arith, common_steps)) in
    let few : length held < most_splits = subst (λ (xs : List Split). length xs < most_splits) (sym (ap (λ (v : Splits). v.list) c.self.view_is)) c.requires.few in
    let kept = kept-more held s c.self.inside.spans.items c.args.span c.self.inside.cuts.items c.self.invariant.0 few there in (
      subst (λ (xs : List Split). AreKept xs c.push_reserved-2.new.self.items c.push_reserved-4.new.self.items) (sym more)
          (subst (λ (xs : List Span). AreKept (held ++ s ∷ []) xs c.push_reserved-4.new.self.items) (sym spans)
          (subst (λ (xs : List Bool). AreKept (held ++ s ∷ []) (c.self.inside.spans.items ++ c.args.span ∷ []) xs) (sym marks) kept)),
      subst (λ (xs : List Split). AreMapped xs c.add_map.new.maps) (sym more)
          (mapped-after held s was_maps c.add_map.new.maps mapped there c.in_ok-add_map.ensures.root half),
    )
