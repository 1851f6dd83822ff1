use Rattle.std.proofs.Common.{refl}
use Rattle.std.proofs.lemmas.Int.{to_z-of_z}
use Rattle.box_space.proofs.Scaled.{parts-fit}
use Rattle.box_space.proofs.write.in_parts.Goals as goal

pub returns : goal.returns
returns c =
    let parts = c.ranges.parts in
    let quality = c.ranges.quality in
    let fits = parts-fit c.args.parts c.args.quality c.requires.parts c.requires.quality in
    simp to_z-of_z refl
