-- What a file in memory has.
use Rattle.std.specs.Prelude.{ℕ, List}
use Rattle.journal.specs.declared.memory_file.MemoryFile.{MemoryFile}

-- The bytes of the file.
abbrev pub bytes_of : MemoryFile → List ℕ
bytes_of file = file.bytes.items

-- How many of its bytes have been read.
abbrev pub read_of : MemoryFile → ℕ
read_of file = file.read
