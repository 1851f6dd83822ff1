use Rattle.std.proofs.Common.{◌≡◌, ◌≤◌, length, drop, get_or, rules}
use Rattle.journal_format.specs.Versions.{version_byte}
use Rattle.journal_format.specs.Files.{HasMagic}
use Rattle.journal_format.proofs.Heads.{begins_with, begins_not, born_front}
use Rattle.journal_format.proofs.head.state_of.Goals as goal

pub returns-then-has_tail-clause-state : goal.returns-then-has_tail-clause-state
returns-then-has_tail-clause-state c = λ text file is first.
    let front = c.args.front.now in
    let birth : get_or front 0 0 ≡ 1 = search rules in
    let marked : HasMagic front = search rules in
    let byte : get_or front 8 0 ≡ version_byte c.in-Some.version = search rules in
    let tail : (9 ≤ length front) × (drop 9 front ≡ c.args.tail.now) = search rules in
    begins_with c.in-Some.version text file front c.args.tail.now is first birth marked byte tail.0 tail.1

pub returns-else-has_tail-clause-state : goal.returns-else-has_tail-clause-state
returns-else-has_tail-clause-state c = λ text file is first largest.
    let front = c.args.front.now in
    let birth : get_or front 0 0 ≡ 1 = search rules in
    let marked : HasMagic front = search rules in
    let byte : get_or front 8 0 ≡ version_byte c.in-Some.version = search rules in
    let none : ¬ ((9 ≤ length front) × (drop 9 front ≡ c.args.tail.now)) = search rules in
    let born = born_front file front (length c.args.tail.now) first c.in-Some.version birth marked byte in
    (born.0, c.in-Some.version, born.1, begins_not c.in-Some.version text file front c.args.tail.now is first none)
