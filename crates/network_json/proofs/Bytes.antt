-- Which value bytes are.
use Rattle.std.proofs.Common.{◌≡◌, Bool, true, false, List, ℕ, Some, None, refl, cond}
use Rattle.std.specs.Str.{IsUtf8, is_utf8}
use Rattle.std.proofs.lemmas.Str.{IsUtf8-from_is_utf8, is_utf8-from_IsUtf8}
use Rattle.serde_json.specs.Data.{Data}
use Rattle.serde_json.specs.Read.{read}
use Rattle.network_json.specs.Format.{value_of}

pub value_found : (bytes : List ℕ) (d : Data) → IsUtf8 bytes × (read bytes ≡ Some d) → value_of bytes ≡ Some d
unfolding value_of
value_found bytes d h = rw (is_utf8-from_IsUtf8 bytes h.0) h.1

none_at : (bytes : List ℕ) (b : Bool) → is_utf8 bytes ≡ b → (IsUtf8 bytes → read bytes ≡ None) → cond b (read bytes) None ≡ None
none_at bytes true e h = h (IsUtf8-from_is_utf8 bytes e)
none_at bytes false e h = refl

pub value_absent : (bytes : List ℕ) → (IsUtf8 bytes → read bytes ≡ None) → value_of bytes ≡ None
unfolding value_of
value_absent bytes h = none_at bytes (is_utf8 bytes) refl h
