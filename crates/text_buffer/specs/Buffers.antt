-- What a buffer holds.
use Rattle.std.specs.Prelude.{ℕ, List}
use Rattle.text_buffer.specs.declared.text_buffer.TextBuffer.{TextBuffer}

-- the bytes that it took
abbrev pub bytes_of : TextBuffer → List ℕ
bytes_of b = b.bytes.items
