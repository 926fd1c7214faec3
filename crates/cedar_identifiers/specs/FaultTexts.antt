-- What faults say.
use Rattle.std.specs.Prelude.{ℕ, List, ◌++◌, codes}
use Rattle.cedar_identifiers.specs.declared.name_fault.NameFault.{NameFault}
use Rattle.cedar_identifiers.specs.declared.name_fault.NameFault.TheVariants.{End, Token, Invalid, NotNormalized}
use Rattle.cedar_identifiers.specs.declared.name_fault.NameFault.TheVariants.{Reserved, Memory}

-- what a fault of a name says
abbrev pub name_fault_text : NameFault → List ℕ
name_fault_text End = codes "unexpected end of input"
name_fault_text (Token t) = codes "unexpected token `" ++ (t ++ codes "`")
name_fault_text Invalid = codes "invalid token"
name_fault_text NotNormalized = codes "the name is not normalized"
name_fault_text (Reserved w) = codes "the word `" ++ (w ++ codes "` is reserved")
name_fault_text Memory = codes "out of memory"
