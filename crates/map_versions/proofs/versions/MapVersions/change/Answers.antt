use Rattle.std.proofs.Common.{◌≡◌, ◌%◌, ◌/◌, ◌++◌, ◌∷◌, [], ℕ, List, length, get_or, rules, arith, ap, subst, ◌∙◌}
use Rattle.std.proofs.lemmas.Grind.{common_steps}
use Rattle.map_versions.specs.Versions.{Versions, AreShared}
use Rattle.map_versions.proofs.Sharing.{put, version-made}
use Rattle.map_versions.proofs.versions.MapVersions.change.Goals as goal

pub invariant_of-self-2 : goal.invariant_of-self-2
invariant_of-self-2 c =
    let m = c.args.self.now in
    let shared : AreShared m = subst (λ (v : Versions). AreShared v) c.self.view_is c.self.invariant in
    let tops_before : c.as_slice-tops.result.now ≡ m.tops = first_of (search rules, grind (arith, common_steps)) in
    let blocks_before : c.as_slice-blocks.result.now ≡ m.blocks = first_of (search rules, grind (arith, common_steps)) in
    let held_blocks : c.reserve.new.self.items ≡ m.blocks = first_of (search rules, grind (arith, common_steps)) in
    let held_tops : c.reserve-2.new.self.items ≡ m.tops = first_of (search rules, grind (arith, common_steps)) in
    let top = get_or c.as_slice-tops.result.now c.args.version 0 in
    (version-made m record { blocks = c.copy-top.new.blocks.items; tops = c.push_reserved.new.self.items } c.args.version c.args.key c.args.number
    c.copy-last.new.blocks.items c.copy-middle.new.blocks.items top c.below-middle.result c.below-last.result c.copy-last.result c.copy-middle.result c.copy-top.result
    shared c.requires.there
    (ap (λ (t : List ℕ). get_or t c.args.version 0) tops_before)
    (c.below-middle.ensures ∙ ap (λ (b : List (List ℕ)). get_or (get_or b top []) (c.args.key % 8) 0) blocks_before)
    (c.below-last.ensures ∙ ap (λ (b : List (List ℕ)). get_or (get_or b c.below-middle.result []) (c.args.key / 8 % 8) 0) blocks_before)
    (c.copy-last.ensures.place ∙ ap (λ (b : List (List ℕ)). length b) held_blocks)
    (c.copy-last.ensures.copied ∙ ap (λ (b : List (List ℕ)). put b c.below-last.result (c.args.key / 8 / 8) c.args.number) held_blocks)
    c.copy-middle.ensures.place
    c.copy-middle.ensures.copied
    c.copy-top.ensures.place
    c.copy-top.ensures.copied
    (c.push_reserved.ensures.items ∙ ap (λ (t : List ℕ). t ++ c.copy-top.result ∷ []) held_tops)).shared

pub returns-clause-changed : goal.returns-clause-changed
returns-clause-changed c =
    let m = c.args.self.now in
    let shared : AreShared m = subst (λ (v : Versions). AreShared v) c.self.view_is c.self.invariant in
    let tops_before : c.as_slice-tops.result.now ≡ m.tops = first_of (search rules, grind (arith, common_steps)) in
    let blocks_before : c.as_slice-blocks.result.now ≡ m.blocks = first_of (search rules, grind (arith, common_steps)) in
    let held_blocks : c.reserve.new.self.items ≡ m.blocks = first_of (search rules, grind (arith, common_steps)) in
    let held_tops : c.reserve-2.new.self.items ≡ m.tops = first_of (search rules, grind (arith, common_steps)) in
    let top = get_or c.as_slice-tops.result.now c.args.version 0 in
    (version-made m record { blocks = c.copy-top.new.blocks.items; tops = c.push_reserved.new.self.items } c.args.version c.args.key c.args.number
    c.copy-last.new.blocks.items c.copy-middle.new.blocks.items top c.below-middle.result c.below-last.result c.copy-last.result c.copy-middle.result c.copy-top.result
    shared c.requires.there
    (ap (λ (t : List ℕ). get_or t c.args.version 0) tops_before)
    (c.below-middle.ensures ∙ ap (λ (b : List (List ℕ)). get_or (get_or b top []) (c.args.key % 8) 0) blocks_before)
    (c.below-last.ensures ∙ ap (λ (b : List (List ℕ)). get_or (get_or b c.below-middle.result []) (c.args.key / 8 % 8) 0) blocks_before)
    (c.copy-last.ensures.place ∙ ap (λ (b : List (List ℕ)). length b) held_blocks)
    (c.copy-last.ensures.copied ∙ ap (λ (b : List (List ℕ)). put b c.below-last.result (c.args.key / 8 / 8) c.args.number) held_blocks)
    c.copy-middle.ensures.place
    c.copy-middle.ensures.copied
    c.copy-top.ensures.place
    c.copy-top.ensures.copied
    (c.push_reserved.ensures.items ∙ ap (λ (t : List ℕ). t ++ c.copy-top.result ∷ []) held_tops)).changed
