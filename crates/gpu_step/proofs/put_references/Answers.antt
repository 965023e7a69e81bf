-- gpu_step::put_references meets its contract: the numbers are put one by one.
-- Assumes nothing.
use borrow.Author.Rules.{rules}
use Rattle.gpu_step.proofs.Answers.{bytes_of_puts}
use Rattle.gpu_step.proofs.put_references.Goals as goal

pub returns : goal.returns
returns c =
    bytes_of_puts c.args.to _ c.put_word-4.ensures c.put_word-3.ensures c.put_word-2.ensures c.put_word.ensures
    c.told-references
    (record { fits = search rules; cast = c.cast_unsigned.ensures })
    (record { fits = search rules; cast = c.cast_unsigned-2.ensures })
    (record { fits = search rules; cast = c.cast_unsigned-3.ensures })
    (record { fits = search rules; cast = c.cast_unsigned-4.ensures })
