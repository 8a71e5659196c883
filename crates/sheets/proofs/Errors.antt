-- What is printed where a plan or a script was not read.
use Rattle.std.proofs.Common.{ℕ, List, IfOk, string_bytes, Result, String, ap, ◌∙◌, inl, inr}
use Rattle.limits.specs.declared.fault.ReadError.{ReadError}
use Rattle.limits.specs.declared.fault.ReadError.TheVariants.{Fault as AtFault, NoMemory}
use Rattle.plans.specs.Reads as plans
use Rattle.plans.specs.declared.plan.Plan.{Plan}
use Rattle.scripts.specs.Reads as scripts
use Rattle.sheets.specs.Printed.{Printed, Told, fault_line}
use Rattle.std.proofs.lemmas.Result.{IfOk-from_err, IfOk-weaker}
use Rattle.std.specs.declared.alloc.AllocError.{AllocError}
use Rattle.std.specs.declared.alloc.Global.{Global}

module _ (plan script : List ℕ) where
  abbrev Prints : Result (String Global) AllocError → Type 0
  Prints r = IfOk r (λ text. Printed plan script (string_bytes text))

  pub no_plan : (e : ReadError) (r : Result (String Global) AllocError) → plans.NotRead plan e → Told e r → Prints r
  no_plan (AtFault f) r n t = IfOk-weaker r _ _ (λ text w. inr (inl (record { fault = f; first = n.0; written = w }))) t
  no_plan NoMemory r n t = IfOk-from_err r _ t

  pub no_script : (p : Plan) → plans.Reads plan p → (e : ReadError) (r : Result (String Global) AllocError) → scripts.NotRead script e → Told e r → Prints r
  no_script p reads (AtFault f) r n t =
      IfOk-weaker r _ _ (λ text w. inr (inr (record { read_plan = p; planned = reads; place = f.place; first = n.1; written = w ∙ ap fault_line n.0 }))) t
  no_script p reads NoMemory r n t = IfOk-from_err r _ t
