-- What contracts see of a message that is kept, whose page may be the end of a string.
use Rattle.std.specs.Prelude.{◌≡◌, ℕ, ◌-◌, ◌≤◌, List, length, drop, Option, Some, None}
use Rattle.ivy_wire.specs.stated.Data.{Content, Message}
use Rattle.ivy_wire.specs.declared.frame.Content.TheVariants.{ReadRep, WriteRep}

-- the content with this page, where it brings one
abbrev pub content_with : Content → List ℕ → Content
content_with (ReadRep page old) bytes = ReadRep page bytes
content_with (WriteRep page copies old) bytes = WriteRep page copies bytes
content_with content bytes = content

-- the message with this page, where it brings one
abbrev pub message_with : Message → List ℕ → Message
message_with m bytes = record m { content = content_with m.content bytes }

-- the message, which has its own page or one that is shared
abbrev pub kept_as : Message → Option (List ℕ) → Message
kept_as m None = m
kept_as m (Some page) = message_with m page

-- the string ends with the page
abbrev pub EndsWith : List ℕ → List ℕ → Type 0
EndsWith bytes page =
    (length page ≤ length bytes) × (drop (length bytes - length page) bytes ≡ page)
