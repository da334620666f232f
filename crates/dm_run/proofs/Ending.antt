-- How a process ends, by the run for its words.
use Rattle.std.proofs.Common.{◌≡◌, List, Result, Ok, Vec, String, sym, subst, drop}
use Rattle.std.specs.declared.alloc.Global.{Global}
use Rattle.std.specs.declared.process.ExitCode.{ExitCode}
use Rattle.std.specs.Process.{exit_status}
use Rattle.dm_run.specs.Ended.{IsEnded, IsRun, Reading, Writing}
use Rattle.dm_outside.specs.Exits.{exit_code}
use Rattle.dm_outside.specs.declared.exit.Status.{Status}

pub ended : (words : Result (Vec (String Global) Global) Status) (all : Vec (String Global) Global) (given : List (String Global)) (U W : Type 0)
    (source source' : Reading) (sink sink' : Writing) (code : ExitCode) (status : Status) → words ≡ Ok all → given ≡ drop 1 all.items →
    exit_status code ≡ exit_code status → IsRun given U W source source' sink sink' status → IsEnded words U W source source' sink sink' code
ended words all given U W source source' sink sink' code status is behind ends run =
    subst (λ ws. IsEnded ws U W source source' sink sink' code) (sym is)
    (status, ends, subst (λ ws. IsRun ws U W source source' sink sink' status) behind run)
