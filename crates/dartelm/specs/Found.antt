-- Only inner contracts need this: all fields as a check found them.
use Rattle.std.specs.Prelude.{map}
use Rattle.codes.specs.declared.Value.{Value}
use Rattle.layout.specs.Contents.{Contents, Found}
use Rattle.sheet.specs.Check.{summary}
use Rattle.dartelm.specs.Sheets.{AllFields}

abbrev pub value_in : Found → Value
value_in x = x.value

abbrev pub found_fields : Contents → AllFields
found_fields c = record { summary = summary c; values = map value_in c.fields }
