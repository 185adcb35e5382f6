-- FIPS 198-1, section 4, in its words and steps: HMAC over a hash function H whose blocks are B bytes. Assumes nothing.
use Rattle.std.specs.Prelude.{List, ◌++◌, ℕ, ◌-◌, ltb, length, replicate}
use Rattle.aes_round.specs.Bytes.{xor_bytes}
use Rattle.echo.specs.Families.{either}
use Rattle.hmac.specs.DoublePipe.{block_size, digest_of}

-- zeros appended to the end, up to B bytes
unfoldable pub with_zeros : ℕ → List ℕ → List ℕ
with_zeros B s = s ++ replicate (B - length s) 0

-- steps 1 to 3: K0, from the key K; a key longer than B is hashed first
unfoldable pub key_block : (List ℕ → List ℕ) → ℕ → List ℕ → List ℕ
key_block H B K = with_zeros B (either (ltb B (length K)) (H K) K)

-- the byte 36, and the byte 5c, repeated B times
abbrev pub ipad : ℕ → List ℕ
ipad B = replicate B 0x36

abbrev pub opad : ℕ → List ℕ
opad B = replicate B 0x5c

-- steps 4 to 9: MAC(text) = H((K0 xor opad) || H((K0 xor ipad) || text))
unfoldable pub mac : (List ℕ → List ℕ) → ℕ → List ℕ → List ℕ → List ℕ
mac H B K text = H (xor_bytes B (key_block H B K) (opad B) ++ H (xor_bytes B (key_block H B K) (ipad B) ++ text))

-- over ECHO in double-pipe: H is the digest of h bits under a salt, and B the block size of its family
unfoldable pub tag_of : ℕ → List ℕ → List ℕ → List ℕ → List ℕ
tag_of h salt key text = mac (digest_of h salt) (block_size h) key text
