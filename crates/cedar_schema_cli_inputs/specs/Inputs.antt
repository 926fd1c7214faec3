-- What reading an input gives. Names, paths and inputs are their bytes.
use Rattle.std.specs.Prelude.{◌≡◌, ◌≤◌, ◌<◌, ℕ, Bool, true, false, List, codes, Option, Result, Ok, Err, length, ⊤}
use Rattle.std.specs.List.{list_any}
use Rattle.std.specs.Str.{bytes_eq}
use Rattle.cedar_files.specs.Files.{Contents, Reads, Lacks, IsTooLong}
use Rattle.cedar_files.specs.declared.fault.FileFault.{FileFault}
use Rattle.cedar_files.specs.declared.fault.FileFault.TheVariants.{Missing, Denied, TooLong, System, Memory}
use Rattle.cedar_io.specs.Input.{HadLeft, max_input}
use Rattle.cedar_io.specs.Outside.{Rose, IsEnd}
use Rattle.cedar_runs.specs.Runs.{Device}

-- what was read: the bytes, or why there are none
abbrev pub Given : Type 0
Given = Result (List ℕ) FileFault

-- the name is that of the standard input
abbrev pub is_standard : List ℕ → Bool
is_standard name = bytes_eq name (codes "-")

-- one of the names is
abbrev pub names_standard : List (List ℕ) → Bool
names_standard names = list_any is_standard names

-- reading the file can end in this fault; a run that is out of memory ends before it tells a fault
abbrev pub CanFail : Option Contents → List ℕ → FileFault → Type 0
CanFail files path Missing = Lacks files path
CanFail files path TooLong = IsTooLong files path
CanFail files path Denied = ⊤
CanFail files path System = ⊤
CanFail files path Memory = ⊥

-- reading the file gives this
abbrev pub IsRead : Option Contents → List ℕ → Given → Type 0
IsRead files path (Ok bytes) = Reads files path bytes × (length bytes ≤ max_input)
IsRead files path (Err fault) = CanFail files path fault

-- these bytes were left of a source, and are more than an input may have
abbrev pub HadTooMany : Device → Type 0
HadTooMany source = (bytes : List ℕ) × HadLeft source.before bytes × (max_input < length bytes)

-- reading a source to its end can end in this fault
abbrev pub CanStop : Device → FileFault → Type 0
CanStop source Missing = ⊥
CanStop source TooLong = HadTooMany source
CanStop source Denied = ⊥
CanStop source System = Rose source.faults_before source.faults_after
CanStop source Memory = ⊥

-- reading the standard input gives this
abbrev pub IsStandardRead : Device → Given → Type 0
IsStandardRead source (Ok bytes) = HadLeft source.before bytes × (length bytes ≤ max_input) × IsEnd source.after
IsStandardRead source (Err fault) = CanStop source fault

-- it is read where it is named, and otherwise stands as before
abbrev pub IsReadIf : Bool → Device → Given → Type 0
IsReadIf true source given = IsStandardRead source given
IsReadIf false source given = source.Same

-- what the standard input gives a command on these names
abbrev pub IsStandardGiven : List (List ℕ) → Device → Given → Type 0
IsStandardGiven names source given = IsReadIf (names_standard names) source given

-- what an input gives, be it the standard input, which gave its bytes already, or the file with this name
abbrev pub GivesIf : Bool → Option Contents → Given → List ℕ → Given → Type 0
GivesIf true files standard name given = given ≡ standard
GivesIf false files standard name given = IsRead files name given

-- the input with this name gives this
abbrev pub Gives : Option Contents → Given → List ℕ → Given → Type 0
Gives files standard name given = GivesIf (is_standard name) files standard name given
