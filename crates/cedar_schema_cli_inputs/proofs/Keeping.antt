-- What reading gives where files stay as they are.
use Rattle.std.proofs.Common.{◌∙◌, refl, sym, ℕ, Bool, true, false, List, Option, Some, None, Ok, Err}
use Rattle.cedar_files.specs.Files.{Contents, Keeps, Reads, Lacks, IsTooLong}
use Rattle.cedar_files.specs.declared.fault.FileFault.{FileFault}
use Rattle.cedar_files.specs.declared.fault.FileFault.TheVariants.{Missing, Denied, TooLong, System, Memory}
use Rattle.cedar_schema_cli_inputs.specs.Inputs.{Given, CanFail, IsRead, Gives, GivesIf, is_standard}

-- files are as they are
pub keeps_all : (files : Option Contents) → Keeps files files
keeps_all (Some files) = λ path. refl
keeps_all None = tt

-- what stays as it is twice stays as it is
pub keeps_on : (a b c : Option Contents) → Keeps a b → Keeps b c → Keeps a c
keeps_on (Some a) (Some b) (Some c) old new = λ path. new path ∙ old path
keeps_on None None None old new = tt
keeps_on (Some a) None c old new = absurd old
keeps_on None (Some b) c old new = absurd old
keeps_on (Some a) (Some b) None old new = absurd new
keeps_on None None (Some c) old new = absurd new

reads_before : (a b : Option Contents) (path bytes : List ℕ) → Keeps a b → Reads b path bytes → Reads a path bytes
reads_before (Some a) (Some b) path bytes same reads = sym (same path) ∙ reads
reads_before None None path bytes same reads = tt
reads_before (Some a) None path bytes same reads = absurd same
reads_before None (Some b) path bytes same reads = absurd same

lacks_before : (a b : Option Contents) (path : List ℕ) → Keeps a b → Lacks b path → Lacks a path
lacks_before (Some a) (Some b) path same lacks = sym (same path) ∙ lacks
lacks_before None None path same lacks = tt
lacks_before (Some a) None path same lacks = absurd same
lacks_before None (Some b) path same lacks = absurd same

too_long_before : (a b : Option Contents) (path : List ℕ) → Keeps a b → IsTooLong b path → IsTooLong a path
too_long_before (Some a) (Some b) path same long = (long.0, sym (same path) ∙ long.1, long.2)
too_long_before None None path same long = tt
too_long_before (Some a) None path same long = absurd same
too_long_before None (Some b) path same long = absurd same

can_fail_before : (a b : Option Contents) (path : List ℕ) (fault : FileFault) → Keeps a b → CanFail b path fault
    → CanFail a path fault
can_fail_before a b path Missing same can = lacks_before a b path same can
can_fail_before a b path TooLong same can = too_long_before a b path same can
can_fail_before a b path Denied same can = tt
can_fail_before a b path System same can = tt
can_fail_before a b path Memory same can = absurd can

read_before : (a b : Option Contents) (path : List ℕ) (given : Given) → Keeps a b → IsRead b path given
    → IsRead a path given
read_before a b path (Ok bytes) same read = (reads_before a b path bytes same read.0, read.1)
read_before a b path (Err fault) same read = can_fail_before a b path fault same read

gives_if_before : (at : Bool) (a b : Option Contents) (standard : Given) (name : List ℕ) (given : Given) → Keeps a b
    → GivesIf at b standard name given → GivesIf at a standard name given
gives_if_before true a b standard name given same gives = gives
gives_if_before false a b standard name given same gives = read_before a b name given same gives

-- what an input gives it gave before
pub gives_before : (a b : Option Contents) (standard : Given) (name : List ℕ) (given : Given) → Keeps a b
    → Gives b standard name given → Gives a standard name given
gives_before a b standard name given same gives =
    gives_if_before (is_standard name) a b standard name given same gives
