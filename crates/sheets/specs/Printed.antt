-- What is printed of the bytes of a plan and a script.
use Rattle.std.specs.Prelude.{◌≡◌, ℕ, true, ◌⊎◌, List, ◌++◌, is_err, IfOk, string_bytes, codes, Result, String}
use Rattle.limits.specs.Refusals.{fault_text}
use Rattle.limits.specs.declared.fault.Fault.{Fault}
use Rattle.limits.specs.declared.fault.ReadError.{ReadError}
use Rattle.limits.specs.declared.fault.ReadError.TheVariants.{Fault as AtFault, NoMemory}
use Rattle.plans.specs.Faults.{FirstFault}
use Rattle.plans.specs.Listing.{listing}
use Rattle.plans.specs.Reads as plans
use Rattle.plans.specs.declared.plan.Plan.{Plan}
use Rattle.scripts.specs.Dues.{time_order}
use Rattle.scripts.specs.Lines.{script_text}
use Rattle.scripts.specs.Reads as scripts
use Rattle.scripts.specs.declared.script.Script.{Script}
use Rattle.sheets.specs.Forecasts.{forecast_lines}
use Rattle.std.specs.declared.alloc.AllocError.{AllocError}
use Rattle.std.specs.declared.alloc.Global.{Global}

abbrev pub fault_line : Fault → List ℕ
fault_line f = fault_text f ++ codes "\n"

-- what is told where bytes were not read: the line of the fault, and no text where memory wants
abbrev pub Told : ReadError → Result (String Global) AllocError → Type 0
Told (AtFault f) r = IfOk r (λ text. string_bytes text ≡ fault_line f)
Told NoMemory r = is_err r ≡ true

-- the plan in words, when its actions end, and the lines of the script in time order
abbrev pub listed : Plan → Script → List ℕ
listed p s = (listing (plans.servers_of p) ++ forecast_lines (plans.servers_of p)) ++ script_text (time_order (scripts.lines_of s))

-- the bytes are a plan and a script
pub record Both (plan script text : List ℕ) : Type 0 where
  pub read_plan : Plan
  pub read_script : Script
  pub planned : plans.Reads plan read_plan
  pub scripted : scripts.Reads script read_script
  pub written : text ≡ listed read_plan read_script

-- those of the plan are none
pub record NoPlan (plan text : List ℕ) : Type 0 where
  pub fault : Fault
  pub first : FirstFault plan fault
  pub written : text ≡ fault_line fault

-- those of the plan are one, and those of the script are none
pub record NoScript (plan script text : List ℕ) : Type 0 where
  pub read_plan : Plan
  pub planned : plans.Reads plan read_plan
  pub place : ℕ
  pub first : scripts.FirstBad script place
  pub written : text ≡ fault_line (scripts.script_fault_of place)

abbrev pub Printed : List ℕ → List ℕ → List ℕ → Type 0
Printed plan script text = Both plan script text ⊎ (NoPlan plan text ⊎ NoScript plan script text)
