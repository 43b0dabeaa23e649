-- The theorems of specs/PsoDemands: by the demands, which speak of the PWS machine, and the equivalence of the two machines.
use Rattle.list_theory.specs.Verdict.{target}
use Rattle.list_theory.proofs.Verdict.{list_safety}
use Rattle.machine_equal.proofs.Reachability.{permitted_start, start_of_lem, visited_takes, takes_visited, same_reachability}
use Rattle.pso_replay.specs.Answers.{pso_steps}
use Rattle.demands.specs.PsoDemands.{PsoSafety, PsoReachability, PwsReachability}
use Rattle.verdict.proofs.Verdicts.{list_range}
use Rattle.demands.proofs.Demands.{run_formed, pso_run_formed, accepted_list, accepted_run, accepted_pso_run}

pub pso_safety : PsoSafety
pso_safety f area n e =
    let x = (accepted_list f area n).0 e in
    let P = x.program in
    let R = (list_range f area P x.targets x.entries x.reads).well_formed in
    record {
      program = P;
      targets = x.targets;
      entries = x.entries;
      reads = x.reads;
      holds = λ memory d s us a v k l h.
          let t = visited_takes v in
          let r =
          (same_reachability P R memory (target x.targets k)).1
          (record { first = d; starts = s; steps = t.0; last = a; takes = t.1; reached = h }) in
          (list_safety P R x.targets x.entries x.holds.1 r.first (permitted_start P memory r.first r.starts) r.steps r.last (takes_visited r.takes)).0
          k l r.reached;
    }

pub pso_reachability : PsoReachability
pso_reachability f area n k e =
    let x = (accepted_run f area n k).0 e in
    let P = x.program in
    let R = run_formed f area P x.targets x.memory x.steps x.reads in
    let r = x.holds in
    record {
      program = P;
      targets = x.targets;
      memory = x.memory;
      steps = x.steps;
      reads = x.reads;
      holds = (same_reachability P R x.memory (target x.targets k)).0
          (record {
            first = r.start;
            starts = start_of_lem P x.memory r.start r.permitted r.memory;
            steps = x.steps;
            last = r.end;
            takes = r.takes;
            reached = r.met;
          });
    }

pub pws_reachability : PwsReachability
pws_reachability f area n k e =
    let x = (accepted_pso_run f area n k).0 e in
    let P = x.program in
    let R = pso_run_formed f area P x.targets x.memory x.records x.reads in
    let r = x.holds in
    record {
      program = P;
      targets = x.targets;
      memory = x.memory;
      records = x.records;
      reads = x.reads;
      holds = (same_reachability P R x.memory (target x.targets k)).1
          (record { first = r.start; starts = r.permitted; steps = pso_steps x.records; last = r.end; takes = r.takes; reached = r.met });
    }
