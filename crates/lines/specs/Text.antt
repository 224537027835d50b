use Rattle.std.specs.Prelude.{ℕ, List, ◌++◌, Some, None, codes, decimal}
use Rattle.lines.specs.declared.line.Line.{Line}
use Rattle.lines.specs.declared.line.Line.TheVariants.{Loaded, Place, Row, Refused}

-- the bytes of a line, line feed included
abbrev pub text : Line → List ℕ
text (Loaded places roads) =
    codes "loaded " ++ decimal places ++ codes " places " ++ decimal roads ++ codes " roads\n"
text (Place place rows) = codes "place " ++ decimal place ++ codes " rows " ++ decimal rows ++ codes "\n"
text (Row time (Some limit)) = decimal time ++ codes " " ++ decimal limit ++ codes "\n"
text (Row time None) = decimal time ++ codes " -\n"
text (Refused number offset) = codes "refused " ++ decimal number ++ codes " at " ++ decimal offset ++ codes "\n"
