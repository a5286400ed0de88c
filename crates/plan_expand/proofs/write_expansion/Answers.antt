-- `plan_expand::write_expansion` meets its contract: what was counted is what is written. Assumes nothing.
use native.Mathlib.Omega.{arith}
use Rattle.plan_expand.proofs.Writing.{expands, named-by, expansion-room, expanded-short, expanded, expanded-alone}
use Rattle.plan_expand.proofs.write_expansion.Goals as goal

pub returns-then-out-bytes : goal.returns-then-out-bytes
returns-then-out-bytes c =
    rw c.at.ensures
    (expanded-short _ _ _ c.in_ok-bytes.was c.requires.expandable c.openings_of-openings.ensures _ c.if-out-bytes.true)

pub put_openings-requires : goal.put_openings-requires
put_openings-requires c =
    let named = named-by _ _ _ c.in_ok-bytes.was c.requires.expandable in
    let few = c.requires.usables.0.actions_few in (
      c.requires.usables.1,
      (λ i l. let k = named i l in omega (arith, k, few)),
      omega (arith, c.if-out-bytes.false, c.if-bytes-steps.true),
    )

pub returns-then-bytes-steps : goal.returns-then-bytes-steps
returns-then-bytes-steps c =
    expanded-alone _ _ _ c.in_ok-bytes.was c.requires.expandable c.openings_of-openings.ensures c.if-out-bytes.false
    (omega (arith, c.if-bytes-steps.true, c.requires.usables.1)) c.put_openings.ensures

pub put_plan-requires : goal.put_plan-requires
put_plan-requires c =
    let usable = c.requires.usables.0 in
    let opens = c.openings_of-openings.ensures in
    record {
      usables = (
        usable,
        (λ k l. let few = opens.few k (omega (arith, l)) in omega (arith, few, l, usable.actions_few)),
        c.requires.usables.1,
        c.requires.usables.3,
      );
      modes_value = expands _ _ _ c.in_ok-bytes.was c.requires.expandable;
      room = expansion-room _ _ _ c.in_ok-bytes.was c.requires.expandable opens c.if-out-bytes.false;
    }

pub returns : goal.returns
returns c =
    expanded _ _ _ c.in_ok-bytes.was c.requires.expandable c.openings_of-openings.ensures c.if-out-bytes.false c.put_plan.ensures
