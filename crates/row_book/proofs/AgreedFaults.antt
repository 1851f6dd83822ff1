-- The faults of a proof rest on the ends of the box's coordinates alone, and a proof in order has none.
use Rattle.std.proofs.Common.{◌^◌, ◌<◌, All, ℕ, ℤ, pos, ◌≤ℤ◌, arith, subst}
use Rattle.integers.proofs.Ring.{additive}
use Rattle.pool_model.specs.Network.{Net, IsLimited}
use Rattle.row_model.specs.Boxes.{Box, Agree}
use Rattle.row_model.specs.Catalogue.{Row}
use Rattle.row_model.specs.Multipliers.{Proof, IsSigned, IsInOrder}
use Rattle.row_model.proofs.Agreement.{agree-back, rows-same, number-same, weight-same}
use Rattle.row_book.specs.Faults.{Holds, IsFirstFault}
use Rattle.row_book.specs.declared.fault.ProofFault.{ProofFault}
use Rattle.row_book.specs.declared.fault.ProofFault.TheVariants.{Order, UnknownRow, Sign, ZeroPart, Wide, ShowsNothing}

holds-same : (n : Net) (b c : Box) (proof : Proof) (fault : ProofFault) → IsLimited n → Agree n b c → Holds n b proof fault → Holds n c proof fault
holds-same n b c proof Order lim a h = h
holds-same n b c proof UnknownRow lim a h = h
holds-same n b c proof Sign lim a h = subst (λ (r : ℕ → Row). ¬ All (λ q. IsSigned (r q.row).kind q.mult) proof.parts) (rows-same n b c lim a) h
holds-same n b c proof ZeroPart lim a h = h
holds-same n b c proof Wide lim a h = subst (λ (w : ℕ). 2 ^ 126 < w) (weight-same n b c proof lim a) h
holds-same n b c proof ShowsNothing lim a h = (h.0, subst (λ (z : ℤ). z ≤ℤ pos 0) (number-same n b c proof lim a) h.1)

pub fault-same : (n : Net) (b c : Box) (proof : Proof) (fault : ProofFault) → IsLimited n → Agree n b c → IsFirstFault n b proof fault → IsFirstFault n c proof fault
fault-same n b c proof fault lim a h = record {
  holds = holds-same n b c proof fault lim a h.holds;
  first = λ earlier before holds. h.first earlier before (holds-same n c b proof earlier lim (agree-back n b c a) holds);
}

-- a proof in order has no fault
pub no-fault : (n : Net) (b : Box) (proof : Proof) (fault : ProofFault) → IsInOrder n b proof → ¬ Holds n b proof fault
no-fault n b proof Order is h = h is.rising
no-fault n b proof UnknownRow is h = h is.known
no-fault n b proof Sign is h = h is.signed
no-fault n b proof ZeroPart is h = h is.nonzero
no-fault n b proof Wide is h = omega (arith, h, is.narrow)
no-fault n b proof ShowsNothing is h = let above = is.shows h.0 in omega (arith, additive, above, h.1)
