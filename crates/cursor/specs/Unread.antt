-- What of a planning file is still to be read (document 01, "Planning file").
use Rattle.std.specs.Prelude.{ℕ, List, drop}
use Rattle.cursor.specs.declared.Cursor.{Cursor}

-- The bytes from the place on (document 01, "Planning file").
abbrev pub unread : Cursor → List ℕ
unread cursor = drop cursor.at cursor.bytes.now
