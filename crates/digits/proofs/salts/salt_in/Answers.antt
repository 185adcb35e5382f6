-- `salt_in` meets its contract: sixteen pairs fill the sixteen bytes. Assumes nothing.
use Rattle.std.proofs.Common.{◌∙◌}
use Rattle.digits.proofs.Laws.Salts.{no_salt, salt_is}
use Rattle.digits.proofs.salts.salt_in.Goals as goal

pub returns-then-word-ne32 : goal.returns-then-word-ne32
returns-then-word-ne32 c = search no_salt

pub returns : goal.returns
returns c = c.bytes_in.ensures ∙ salt_is c.args.word.now c.if-word-ne32.false
