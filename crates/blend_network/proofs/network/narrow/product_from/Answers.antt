use Rattle.blend_network.proofs.network.narrow.product_from.Goals as goal

pub narrowed_limits-requires : goal.narrowed_limits-requires
narrowed_limits-requires c = rw c.deref.ensures.value c.requires.least

pub narrowed_limits-requires-2 : goal.narrowed_limits-requires-2
narrowed_limits-requires-2 c = rw c.deref-2.ensures.value c.requires.most
