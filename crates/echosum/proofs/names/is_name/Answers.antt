-- `is_name` meets its contract: its tests are the definition's. Assumes nothing.
use Rattle.std.proofs.Common.{◌≡◌, eqb}
use Rattle.std.specs.List.{list_any}
use Rattle.echosum.proofs.Laws.Names.{escaped_name, plain_name, zero_byte}
use Rattle.echosum.proofs.names.is_name.Goals as goal

pub returns-then-contains : goal.returns-then-contains
returns-then-contains c = let zero : c.contains.result ≡ list_any (λ x. eqb x 0) c.args.text.now = c.contains.ensures.value in search zero_byte

pub returns-then-not-is_escaped : goal.returns-then-not-is_escaped
returns-then-not-is_escaped c =
    let zero : c.contains.result ≡ list_any (λ x. eqb x 0) c.args.text.now = c.contains.ensures.value in search plain_name

pub returns-else-not-is_escaped : goal.returns-else-not-is_escaped
returns-else-not-is_escaped c =
    let zero : c.contains.result ≡ list_any (λ x. eqb x 0) c.args.text.now = c.contains.ensures.value in search escaped_name
