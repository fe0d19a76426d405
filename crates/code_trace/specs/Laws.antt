-- What does what an evaluation does has its open traces.
use Rattle.std.specs.Prelude.{ℕ, suc, List}
use Rattle.jp_store.specs.declared.value.Value.{Value}
use Rattle.jp_store.specs.Store.{Store}
use Rattle.jp_does.specs.OpenTrace.{Answer, open_trace}
use Rattle.jp_meaning.specs.Does.{Does}
use Rattle.jp_meaning.specs.Run.{End}
use Rattle.jvm_table.specs.declared.frame.Frame.{Frame}
use Rattle.jvm_table.specs.Act.{Act}
use Rattle.code_trace.specs.CodeTrace.{trace_from}
use Rattle.code_trace.specs.OpenTraces.{IsTraceOf}
use Rattle.code_trace.specs.Follows.{Follows, Leaving, IsDeep}

-- from a frame on with a budget, for an evaluation that may spend t ticks
abbrev pub WhatFollowsHasTraces : Type 0
WhatFollowsHasTraces =
    (run : Frame → Act) (current : List ℕ) (more : ℕ) (d : Does Value) (budget : ℕ) (f : Frame) (t : ℕ) (answers : List (Answer End)) (s : Store) (i : List ℕ) →
    IsDeep (suc t) d → Follows run current more (Leaving run) budget f d →
    (n : ℕ) × IsTraceOf current (trace_from run f n answers s i) (open_trace t answers s i d) budget more
