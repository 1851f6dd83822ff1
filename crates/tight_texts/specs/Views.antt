-- Marks and places in a text, without where they lie in memory.
use Rattle.std.specs.Prelude.{map}
use Rattle.exact_num.specs.Views.{shown_frac}
use Rattle.box_space.specs.Views.{shown_proof}
use Rattle.relaxation_points.specs.declared.point.RelaxPoint.{RelaxPoint}
use Rattle.leaf_marks.specs.declared.mark.Mark as declared
use Rattle.leaf_marks.specs.declared.mark.Mark.TheVariants as marks
use Rattle.leaf_marks.specs.declared.mark.Reason as reasons
use Rattle.leaf_marks.specs.declared.mark.Reason.TheVariants as causes
use Rattle.exact_run.specs.declared.operations.TooWide.{TooWide}
use Rattle.cert_text.specs.Reading.{At}
use Rattle.cert_text.specs.declared.source.SliceSource.{SliceSource}
use Rattle.tight_texts.specs.Texts.{Values, Operated, Reason, unended, wide, coarse, heavy_proof, heavy_point, Mark, tight, raised, empty, loose, LeafMark, Marks}
use Rattle.tight_texts.specs.declared.marks.LeafMark as lines
use Rattle.tight_texts.specs.declared.marks.TightText as texts

-- the values of a point
abbrev pub shown_values : RelaxPoint → Values
shown_values q = record { base = q.base; values = q.values.items }

-- an operation on two fractions
abbrev pub shown_wide : TooWide → Operated
shown_wide w = record { operation = w.operation; left = shown_frac w.left; right = shown_frac w.right }

-- a reason
abbrev pub shown_reason : reasons.Reason → Reason
shown_reason (causes.Pivots n) = unended n
shown_reason (causes.Wide w) = wide (shown_wide w)
shown_reason (causes.Coarse n x) = coarse n (shown_frac x)
shown_reason (causes.HeavyProof p) = heavy_proof (shown_proof p)
shown_reason (causes.HeavyPoint q) = heavy_point (shown_values q)

-- a mark
abbrev pub shown_mark : declared.Mark → Mark
shown_mark (marks.Tight q) = tight (shown_values q)
shown_mark (marks.Raised p q) = raised (shown_proof p) (shown_values q)
shown_mark (marks.Empty p) = empty (shown_proof p)
shown_mark (marks.Loose r) = loose (shown_reason r)

-- a leaf and its mark
abbrev pub shown_leaf : lines.LeafMark → LeafMark
shown_leaf m = record { node = m.node; mark = shown_mark m.mark }

-- marks
abbrev pub shown_marks : texts.TightText → Marks
shown_marks t = record { form = t.form; pivots = t.pivots; marks = map shown_leaf t.marks.items; bound = t.bound }

-- where a text that lies in memory goes on
abbrev pub place_of : SliceSource → At
place_of s = record { line = s.line; rest = s.rest.now }
