-- `differ` is the definition's test; no product wraps, since widths are at most 32, W at most 64 and n at most 1024.
use mathlib.Core.Path.{refl}
use native.Mathlib.Omega.{arith}
use Rattle.admit.specs.Lengths.{differing}
use Rattle.admit.proofs.Admitting.{regions_times, width_times}
use Rattle.admit.proofs.lengths.differ.Goals as goal

pub overflow_mul-result : goal.overflow_mul-result
overflow_mul-result c =
    let args = c.args in
    let pre = c.requires in
    record { fits = omega (arith, width_times args.a.input args.n pre.array_ranges.input.most pre.n_bound) }

pub overflow_mul-result-2 : goal.overflow_mul-result-2
overflow_mul-result-2 c =
    let args = c.args in
    let pre = c.requires in
    record { fits = omega (arith, width_times args.a.condition args.n pre.array_ranges.condition.most pre.n_bound) }

pub overflow_mul-result-3 : goal.overflow_mul-result-3
overflow_mul-result-3 c =
    let args = c.args in
    let pre = c.requires in
    record { fits = omega (arith, width_times args.a.head_in args.n pre.array_ranges.head_in.most pre.n_bound) }

pub overflow_mul-result-4 : goal.overflow_mul-result-4
overflow_mul-result-4 c =
    let args = c.args in
    let pre = c.requires in
    record { fits = omega (arith, width_times args.a.head_size args.n pre.array_ranges.head_size.most pre.n_bound) }

pub overflow_mul-result-5 : goal.overflow_mul-result-5
overflow_mul-result-5 c =
    let args = c.args in
    let pre = c.requires in
    record { fits = omega (arith, width_times args.a.channels args.n pre.array_ranges.channels.most pre.n_bound) }

pub overflow_mul-result-6 : goal.overflow_mul-result-6
overflow_mul-result-6 c = omega (arith, c.requires.widest_bound)

pub overflow_mul-result-7 : goal.overflow_mul-result-7
overflow_mul-result-7 c =
    let args = c.args in
    let pre = c.requires in
    omega (arith, regions_times args.s.widest args.n pre.widest_bound pre.n_bound)

pub returns : goal.returns
unfolding differing
returns c = refl
