use Rattle.std.proofs.Common.{◌≡◌, ◌∷◌, [], rules, get_or, ◌%◌, ◌/◌, arith}
use Rattle.std.proofs.lemmas.Grind.{common_steps}
use Rattle.map_versions.proofs.Sharing.{zeros, nothing}
use Rattle.map_versions.proofs.versions.MapVersions.new.Goals as goal

pub returns-clause-none : goal.returns-clause-none
returns-clause-none c =
    let items = c.in_ok-vec.field-0.items in
    let lone : items ≡ zeros ∷ [] = first_of (search rules, grind (arith, common_steps)) in
    λ key. nothing items (get_or (get_or items (get_or (get_or items (get_or c.in_ok-vec-2.field-0.items 0 0) []) (key % 8) 0) []) (key / 8 % 8) 0) (key / 8 / 8 % 8) lone
