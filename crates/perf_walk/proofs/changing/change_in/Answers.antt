use Rattle.std.proofs.Common.{sym, refl}
use Rattle.perf_history.specs.declared.changes.Change.TheVariants as change
use Rattle.perf_records.specs.Records.{mmap_is, comm_is, fork_is, mmap2_is, ksymbol_is}
use Rattle.perf_types.specs.Comm.{comm}
use Rattle.perf_types.specs.KSymbol.{ksymbol}
use Rattle.perf_types.specs.Mmap.{mmap}
use Rattle.perf_types.specs.Mmap2.{mmap2}
use Rattle.perf_types.specs.Numbers.{exit}
use Rattle.perf_walk.specs.Changes.{comm_change, fork_change, mmap_change, mmap2_change, symbol_change}
use Rattle.perf_walk.specs.Plain.{plain}
use Rattle.perf_walk.proofs.Stated.{stated_change, of_other_type}
use Rattle.perf_walk.proofs.changing.change_in.Goals as goal

pub returns-then-frame-eq-PERF_RECORD_MMAP : goal.returns-then-frame-eq-PERF_RECORD_MMAP
returns-then-frame-eq-PERF_RECORD_MMAP c = λ config o is.
    stated_change 0 mmap_is (λ _. mmap) (λ _. refl) (λ c o frame ids r f states. record { numbers = states.0.numbers; strings = states.1 }) mmap_change (λ misc r. refl)
    config o c.args.bytes.now c.args.frame.now is c.if-frame-eq-PERF_RECORD_MMAP.true (plain (change.Map c.mmap_in.result)) (λ r has. c.mmap_in.ensures r has)

pub returns-then-frame-eq-PERF_RECORD_COMM : goal.returns-then-frame-eq-PERF_RECORD_COMM
returns-then-frame-eq-PERF_RECORD_COMM c = λ config o is.
    stated_change 2 comm_is (λ _. comm) (λ _. refl) (λ c o frame ids r f states. record { numbers = states.0.numbers; strings = states.1 }) (λ misc r. comm_change r) (λ misc r. refl)
    config o c.args.bytes.now c.args.frame.now is c.if-frame-eq-PERF_RECORD_COMM.true (plain (change.Comm c.comm_in.result)) (λ r has. c.comm_in.ensures r has)

pub returns-then-frame-eq-PERF_RECORD_FORK : goal.returns-then-frame-eq-PERF_RECORD_FORK
returns-then-frame-eq-PERF_RECORD_FORK c = λ config o is.
    stated_change 6 fork_is (λ _. exit) (λ _. refl) (λ c o frame ids r f states. record { numbers = states.0.numbers; strings = states.1 }) fork_change (λ misc r. refl)
    config o c.args.bytes.now c.args.frame.now is c.if-frame-eq-PERF_RECORD_FORK.true (change.Fork c.fork_in.result) (λ r has. c.fork_in.ensures c.args.bytes.now r has)

pub returns-then-frame-eq-PERF_RECORD_MMAP2 : goal.returns-then-frame-eq-PERF_RECORD_MMAP2
returns-then-frame-eq-PERF_RECORD_MMAP2 c = λ config o is.
    stated_change 9 mmap2_is mmap2 (λ _. refl) (λ c o frame ids r f states. record { numbers = states.0.numbers; strings = states.1 }) mmap2_change (λ misc r. refl)
    config o c.args.bytes.now c.args.frame.now is c.if-frame-eq-PERF_RECORD_MMAP2.true (plain (change.Map c.mmap2_in.result)) (λ r has. c.mmap2_in.ensures r has)

pub returns-then-frame-eq-PERF_RECORD_KSYMBOL : goal.returns-then-frame-eq-PERF_RECORD_KSYMBOL
returns-then-frame-eq-PERF_RECORD_KSYMBOL c = λ config o is.
    stated_change 16 ksymbol_is (λ _. ksymbol) (λ _. refl) (λ c o frame ids r f states. record { numbers = states.0.numbers; strings = states.1 }) (λ misc r. symbol_change r) (λ misc r. refl)
    config o c.args.bytes.now c.args.frame.now is c.if-frame-eq-PERF_RECORD_KSYMBOL.true (plain (change.Symbol c.symbol_in.result)) (λ r has. c.symbol_in.ensures r has)

pub returns : goal.returns
returns c = λ config o is.
    sym (of_other_type config o c.args.bytes.now c.args.frame.now is (record {
      mmap = c.if-frame-eq-PERF_RECORD_MMAP.false;
      comm = c.if-frame-eq-PERF_RECORD_COMM.false;
      fork = c.if-frame-eq-PERF_RECORD_FORK.false;
      mmap2 = c.if-frame-eq-PERF_RECORD_MMAP2.false;
      ksymbol = c.if-frame-eq-PERF_RECORD_KSYMBOL.false;
    }))
