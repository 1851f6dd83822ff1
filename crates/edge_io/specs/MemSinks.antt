-- What a sink in memory was told to do.
use Rattle.std.specs.Prelude.{ℕ, List, Option}
use Rattle.edge_io.specs.declared.mem_sink.MemSink.{MemSink}

-- the bytes that it took
abbrev pub bytes_of : MemSink → List ℕ
bytes_of s = s.bytes.items

-- how many of its calls failed
abbrev pub faults_of : MemSink → ℕ
faults_of s = s.faults

-- the numbers of the calls that fail
abbrev pub failing_of : MemSink → List ℕ
failing_of s = s.failing.items

-- how many calls there were
abbrev pub calls_of : MemSink → ℕ
calls_of s = s.calls

-- how many bytes it still takes, where that is limited
abbrev pub room_of : MemSink → Option ℕ
room_of s = s.room
