-- No second answer meets a public routine's contract: two results, and two states of the room, that both meet it are equal. `Post` is the
-- routine's contract as it stands in src/, of the arguments a, the result r and the parameters at exit s. What puts a text into a line hands the line
-- back, by a reference of the name that it was lent by: two lines that meet the contract are equal. Assumes nothing.
use mathlib.Core.Path.{◌≡◌, sym, ◌∙◌}
use Rattle.lines.proofs.bytes.put.Reads as put
use Rattle.lines.proofs.decimal.put_decimal.Reads as put_decimal
use Rattle.lines.proofs.hexadecimal.put_hex.Reads as put_hex
use Rattle.lines.proofs.names.put_named.Reads as put_named
use Rattle.lines.proofs.reasons.put_reason.Reads as put_reason
use Rattle.lines.proofs.line.Line.new.Reads as new
use Rattle.lines.proofs.line.Line.bytes.Reads as bytes
use Rattle.lines.proofs.line.Line.text.Reads as text
use Rattle.lines.proofs.line.Line.decimal.Reads as decimal
use Rattle.lines.proofs.line.Line.hex.Reads as hex
use Rattle.lines.proofs.line.Line.named.Reads as named
use Rattle.lines.proofs.line.Line.reason.Reads as reason

pub put_has_one_answer : (κs : _) (a : _) (r r' : _) (s s' : _) → put.Post κs a r s → put.Post κs a r' s'
    → (r ≡ r') × (s.0.now ≡ s'.0.now)
put_has_one_answer κs a r r' s s' p q = (p.place_is ∙ sym q.place_is, p.room_is ∙ sym q.room_is)

pub put_hex_has_one_answer : (κs : _) (a : _) (r r' : _) (s s' : _) → put_hex.Post κs a r s → put_hex.Post κs a r' s'
    → (r ≡ r') × (s.0.now ≡ s'.0.now)
put_hex_has_one_answer κs a r r' s s' p q = (p.place_is ∙ sym q.place_is, p.room_is ∙ sym q.room_is)

pub put_decimal_has_one_answer : (κs : _) (a : _) (r r' : _) (s s' : _) → put_decimal.Post κs a r s → put_decimal.Post κs a r' s'
    → (r ≡ r') × (s.0.now ≡ s'.0.now)
put_decimal_has_one_answer κs a r r' s s' p q = (p.place_is ∙ sym q.place_is, p.room_is ∙ sym q.room_is)

pub put_named_has_one_answer : (κs : _) (a : _) (r r' : _) (s s' : _) → put_named.Post κs a r s → put_named.Post κs a r' s'
    → (r ≡ r') × (s.0.now ≡ s'.0.now)
put_named_has_one_answer κs a r r' s s' p q = (p.place_is ∙ sym q.place_is, p.room_is ∙ sym q.room_is)

pub put_reason_has_one_answer : (κs : _) (a : _) (r r' : _) (s s' : _) → put_reason.Post κs a r s → put_reason.Post κs a r' s'
    → (r ≡ r') × (s.0.now ≡ s'.0.now)
put_reason_has_one_answer κs a r r' s s' p q = (p.place_is ∙ sym q.place_is, p.room_is ∙ sym q.room_is)

pub new_has_one_answer : (N : _) (fits : _) (κs : _) (a : _) (r r' : _) (s s' : _) → new.Post N fits κs a r s → new.Post N fits κs a r' s'
    → r ≡ r'
new_has_one_answer N fits κs a r r' s s' p q = p ∙ sym q

pub bytes_has_one_answer : (N : _) (fits : _) (κs : _) (a : _) (r r' : _) (s s' : _) → bytes.Post N fits κs a r s → bytes.Post N fits κs a r' s'
    → r.now ≡ r'.now
bytes_has_one_answer N fits κs a r r' s s' p q = p.0 ∙ sym q.0

pub text_has_one_answer : (N : _) (fits : _) (κs : _) (a : _) (r r' : _) (s s' : _) → text.Post N fits κs a r s → text.Post N fits κs a r' s'
    → (r.now ≡ r'.now) × (r.ghost_name ≡ r'.ghost_name)
text_has_one_answer N fits κs a r r' s s' p q = (p.1 ∙ sym q.1, p.0 ∙ sym q.0)

pub decimal_has_one_answer : (N : _) (fits : _) (κs : _) (a : _) (r r' : _) (s s' : _) → decimal.Post N fits κs a r s → decimal.Post N fits κs a r' s'
    → (r.now ≡ r'.now) × (r.ghost_name ≡ r'.ghost_name)
decimal_has_one_answer N fits κs a r r' s s' p q = (p.1 ∙ sym q.1, p.0 ∙ sym q.0)

pub hex_has_one_answer : (N : _) (fits : _) (κs : _) (a : _) (r r' : _) (s s' : _) → hex.Post N fits κs a r s → hex.Post N fits κs a r' s'
    → (r.now ≡ r'.now) × (r.ghost_name ≡ r'.ghost_name)
hex_has_one_answer N fits κs a r r' s s' p q = (p.1 ∙ sym q.1, p.0 ∙ sym q.0)

pub named_has_one_answer : (N : _) (fits : _) (κs : _) (a : _) (r r' : _) (s s' : _) → named.Post N fits κs a r s → named.Post N fits κs a r' s'
    → (r.now ≡ r'.now) × (r.ghost_name ≡ r'.ghost_name)
named_has_one_answer N fits κs a r r' s s' p q = (p.1 ∙ sym q.1, p.0 ∙ sym q.0)

pub reason_has_one_answer : (N : _) (fits : _) (κs : _) (a : _) (r r' : _) (s s' : _) → reason.Post N fits κs a r s → reason.Post N fits κs a r' s'
    → (r.now ≡ r'.now) × (r.ghost_name ≡ r'.ghost_name)
reason_has_one_answer N fits κs a r r' s s' p q = (p.1 ∙ sym q.1, p.0 ∙ sym q.0)
