-- What C is given of the SFDP table has no second answer.
use mathlib.Core.Path.{sym, ◌∙◌}
use Rattle.pod.specs.Sfdp.{OneTable, OneRevision, OneHeader, OneErase, OneTableWritten}

pub one_table : OneTable
one_table c n m a a' b b' d d' p q = (p.number_is ∙ sym q.number_is, p.headers-is ∙ sym q.headers-is, p.density-is ∙ sym q.density-is, p.types-is ∙ sym q.types-is)

pub one-revision : OneRevision
one-revision v n m a a' b b' p q = (p.number_is ∙ sym q.number_is, p.minor-is ∙ sym q.minor-is, p.major-is ∙ sym q.major-is)

pub one-header : OneHeader
one-header h n m a a' b b' c c' d d' e e' p q =
    (p.number_is ∙ sym q.number_is, p.id-is ∙ sym q.id-is, p.minor-is ∙ sym q.minor-is, p.major-is ∙ sym q.major-is, p.words-is ∙ sym q.words-is, p.pointer_is ∙ sym q.pointer_is)

pub one-erase : OneErase
one-erase s n m a a' b b' p q = (p.number_is ∙ sym q.number_is, p.exponent-is ∙ sym q.exponent-is, p.opcode-is ∙ sym q.opcode-is)

pub one-table-written : OneTableWritten
one-table-written w n m xs ys p q = (p.number_is ∙ sym q.number_is, p.out-is ∙ sym q.out-is)
