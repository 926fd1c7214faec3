use Rattle.std.proofs.Common.{rules}
use Rattle.schema_resolve_targets.specs.ReferenceParts.{by_reference}
use Rattle.schema_json_walk.proofs.Layers.{variant_walked}
use Rattle.schema_resolve.proofs.rename_types.rename_variant.Goals as goal

pub returns-in_ok-rename_record-in-Record-clause-defined : goal.returns-in_ok-rename_record-in-Record-clause-defined
returns-in_ok-rename_record-in-Record-clause-defined g c =
    rw (c.in-Record.is, variant_walked (by_reference (g.R.Renamer.untargeted c.args.renamer.now)) c.in-Record.fields)
    c.in_ok-rename_record-in-Record.ensures.defined

pub returns-in-Boolean-clause-err : goal.returns-in-Boolean-clause-err
returns-in-Boolean-clause-err g c = search rules

pub returns-in-Long-clause-err : goal.returns-in-Long-clause-err
returns-in-Long-clause-err g c = search rules

pub returns-in-String-clause-err : goal.returns-in-String-clause-err
returns-in-String-clause-err g c = search rules

pub returns-in_err-clone_in-in-Extension-clause-defined : goal.returns-in_err-clone_in-in-Extension-clause-defined
returns-in_err-clone_in-in-Extension-clause-defined g c = search rules

pub returns-in_err-clone_in-in-Extension-clause-err : goal.returns-in_err-clone_in-in-Extension-clause-err
returns-in_err-clone_in-in-Extension-clause-err g c = search rules

pub returns-in_err-clone_in-in-Extension-clause-out : goal.returns-in_err-clone_in-in-Extension-clause-out
returns-in_err-clone_in-in-Extension-clause-out g c = search rules

pub returns-in_err-element-in-Set-clause-defined : goal.returns-in_err-element-in-Set-clause-defined
returns-in_err-element-in-Set-clause-defined g c = search rules

pub returns-in_err-element-in-Set-clause-out : goal.returns-in_err-element-in-Set-clause-out
returns-in_err-element-in-Set-clause-out g c = search rules

pub returns-in_err-new-in-Set-clause-defined : goal.returns-in_err-new-in-Set-clause-defined
returns-in_err-new-in-Set-clause-defined g c = search rules

pub returns-in_err-new-in-Set-clause-err : goal.returns-in_err-new-in-Set-clause-err
returns-in_err-new-in-Set-clause-err g c = search rules

pub returns-in_err-new-in-Set-clause-out : goal.returns-in_err-new-in-Set-clause-out
returns-in_err-new-in-Set-clause-out g c = search rules

pub returns-in_err-rename-in-Entity-clause-defined : goal.returns-in_err-rename-in-Entity-clause-defined
returns-in_err-rename-in-Entity-clause-defined g c = search rules

pub returns-in_err-rename-in-Entity-clause-out : goal.returns-in_err-rename-in-Entity-clause-out
returns-in_err-rename-in-Entity-clause-out g c = search rules

pub returns-in_err-rename-in-EntityOrCommon-clause-defined : goal.returns-in_err-rename-in-EntityOrCommon-clause-defined
returns-in_err-rename-in-EntityOrCommon-clause-defined g c = search rules

pub returns-in_err-rename-in-EntityOrCommon-clause-out : goal.returns-in_err-rename-in-EntityOrCommon-clause-out
returns-in_err-rename-in-EntityOrCommon-clause-out g c = search rules

pub returns-in_err-rename_record-in-Record-clause-defined : goal.returns-in_err-rename_record-in-Record-clause-defined
returns-in_err-rename_record-in-Record-clause-defined g c = search rules

pub returns-in_err-rename_record-in-Record-clause-out : goal.returns-in_err-rename_record-in-Record-clause-out
returns-in_err-rename_record-in-Record-clause-out g c = search rules

pub returns-in_ok-clone_in-in-Extension-clause-err : goal.returns-in_ok-clone_in-in-Extension-clause-err
returns-in_ok-clone_in-in-Extension-clause-err g c = search rules

pub returns-in_ok-new-in-Set-clause-err : goal.returns-in_ok-new-in-Set-clause-err
returns-in_ok-new-in-Set-clause-err g c = search rules

pub returns-in_ok-rename-in-Entity-clause-err : goal.returns-in_ok-rename-in-Entity-clause-err
returns-in_ok-rename-in-Entity-clause-err g c = search rules

pub returns-in_ok-rename-in-EntityOrCommon-clause-err : goal.returns-in_ok-rename-in-EntityOrCommon-clause-err
returns-in_ok-rename-in-EntityOrCommon-clause-err g c = search rules

pub returns-in_ok-rename_record-in-Record-clause-err : goal.returns-in_ok-rename_record-in-Record-clause-err
returns-in_ok-rename_record-in-Record-clause-err g c = search rules
