-- What a view of a table file means.
--   view_table M f   the table that the file f means
-- Assumes nothing.
use Rattle.std.specs.Prelude.{ℕ, List}
use Rattle.field.specs.Model.{FieldModel}
use Rattle.server.specs.Tables.{listed}
use Rattle.table_file.specs.Files.{count_of, file_value}
use Rattle.table_file.specs.declared.table_file.TableFile.{TableFile}

abbrev pub view_table : {F : Type 0} → FieldModel → TableFile F → List ℕ
view_table M f = listed M (count_of f.bytes.now) (file_value M f.bytes.now)
