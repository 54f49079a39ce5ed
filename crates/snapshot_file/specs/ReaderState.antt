-- A reader of a body as its callers see it.
use Rattle.std.specs.Prelude.{ℕ, List, Option}
use Rattle.snapshot_file.specs.declared.field.Field.{Field}

pub record ReaderState : Type 0 where
  -- the file place of the body, and its slot
  pub base : ℕ
  pub slot : ℕ
  -- how many bytes are read
  pub fed : ℕ
  -- the field that comes next, and those of its bytes that are read
  pub field : Field
  pub held : List ℕ
  -- the file place of the first wrong field, once it is shown
  pub wrong : Option ℕ
