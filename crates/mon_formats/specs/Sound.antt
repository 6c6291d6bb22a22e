-- Data whose text reads back as the same data, by itself and within other data.
use Rattle.std.specs.Prelude.{◌≡◌, Some}
use Rattle.json.specs.Tree.{HasNumbers}
use Rattle.serde_json.specs.Data.{Data}
use Rattle.serde_json.specs.Read.{of_json}
use Rattle.serde_json.specs.Written.{outline}

-- each number's text is a number of JSON, and the value that is written reads as this data
unfoldable pub IsSound : Data → Type 0
IsSound d = HasNumbers (outline d) × (of_json (outline d) ≡ Some d)
