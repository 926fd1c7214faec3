-- What a part of a syntax is read as.
use Rattle.std.specs.Prelude.{◌≡◌, ℕ, List, Result, Ok, Err, Some}
use Rattle.std.specs.List.{All}
use Rattle.cedar_data.specs.declared.node.Node.{Node}
use Rattle.cedar_identifiers.specs.declared.annotations.Annotations.{Annotations}
use Rattle.schema_syntax_parser.specs.declared.syntax.AttrSyntax.{AttrSyntax, out-AttrSyntax}
use Rattle.schema_syntax_tree.specs.declared.annotated.Annotated.{Annotated}
use Rattle.schema_syntax_tree.specs.declared.types.Type.{«Type»}
use Rattle.schema_syntax_tree.specs.declared.types.AttrDecl.{AttrDecl, roll-AttrDecl}
use Rattle.schema_syntax_reader.specs.declared.stopped.Stopped.{Stopped}
use Rattle.schema_syntax_reader.specs.Sites.{Site}
use Rattle.schema_syntax_reader.specs.Leaves.{AreNotes}
use Rattle.schema_syntax_reader.specs.Placed.{NoSiteFault}
use Rattle.schema_syntax_reader.specs.Stops.{IsStopped}
use Rattle.schema_syntax_reader.specs.Trees.{IsNameNode, IsTypeOf}

-- what the part stands for, where none of its sites has a fault; else the first of its sites that has one
abbrev pub Reads : {A : Type 0} → List ℕ → List Site → (A → Type 0) → Result A Stopped → Type 0
Reads source sites Is (Ok x) = Is x × All (NoSiteFault source) sites
Reads source sites Is (Err stop) = IsStopped source sites stop

-- what an attribute stands for
abbrev pub IsAttrOf : List ℕ → AttrSyntax → Node (Annotated AttrDecl) → Type 0
IsAttrOf source x n =
    (name : Node (List ℕ)) × (ty : Node «Type») × (notes : Annotations)
    × IsNameNode source (out-AttrSyntax x).name name × IsTypeOf source (out-AttrSyntax x).ty ty
    × AreNotes source (out-AttrSyntax x).annotations notes.0
    × (n ≡ record {
      node = record {
        item = roll-AttrDecl (record { name = name; required = (out-AttrSyntax x).required; ty = ty });
        annotations = notes;
      };
      loc = Some (out-AttrSyntax x).loc;
    })
