use Rattle.std.proofs.Common.{◌+◌, ◌-◌, ◌*◌, ◌^◌, ◌≤◌, ap, ◌∙◌, mul-le-mul, arith}
use Rattle.release.proofs.Ceils.{ceil_quotient}
use Rattle.release.proofs.opening.last_end.Goals as goal

pub overflow_add-result : goal.overflow_add-result
overflow_add-result c =
    let n : c.div_ceil.result ≤ 2 ^ 32 - 1 = omega arith in
    omega (arith, mul-le-mul n c.requires.period)

pub returns : goal.returns
returns c =
    let a = c.args in
    let q = c.div_ceil.ensures ∙ ceil_quotient a.left a.task.limit c.requires.limit in
    record { answer = ap (λ n. a.boundary + n * a.task.period) q }
