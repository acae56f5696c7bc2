-- The groups in which an MMAP2 record is read form its body.
use Rattle.std.proofs.Common.{◌≡◌, refl, sym, subst}
use Rattle.std.specs.Prelude.{Result, Ok, Err, IsTrue}
use Rattle.perf_base.specs.Configuration.{Configuration}
use Rattle.perf_base.specs.Layout.{◌>>=◌}
use Rattle.perf_base.specs.Order.{Order}
use Rattle.perf_base.specs.Refusals.{NeedsNoMemory}
use Rattle.perf_base.specs.declared.error.ErrorKind.{ErrorKind}
use Rattle.perf_buffers.specs.Buffer.{Source}
use Rattle.perf_reader.proofs.After.{call_after, call_stops}
use Rattle.perf_reader.specs.Calls.{Call}
use Rattle.perf_reader.specs.Reading.{Reads, ReadsInPlace}
use Rattle.perf_reader.specs.declared.reader.Reader.{Reader}
use Rattle.perf_types.specs.Mmap2.{mmap2, mmap2_value, IsBorrowedMmap2, place, after_place}
use Rattle.perf_types.specs.Mmap2.{after_detail}
use Rattle.perf_types.specs.MmapDetail.{mmap_detail, detail_value}
use Rattle.perf_types.specs.declared.mmap2.Mmap2.{Mmap2}
use Rattle.perf_types.specs.declared.mmap2.MmapDetail.{MmapDetail}
use Rattle.perf_types.specs.declared.mmap2.Place.{Place}

groups_are_it : (c : Configuration) → (place >>= λ p. after_place p c) ≡ mmap2 c
groups_are_it c = refl

module _ {I E : Type 0} {source : I → Source} {order : E → Order} where
  -- the second group was read after the first
  pub places_read : {a b c : Reader I E} {p : Place} {outcome : Result Mmap2 ErrorKind} →
      Call source order (Reads (λ _. place) (λ p. p)) a (Ok p) b →
      Call source order (ReadsInPlace (after_place p) mmap2_value IsBorrowedMmap2) b outcome c →
      Call source order (ReadsInPlace mmap2 mmap2_value IsBorrowedMmap2) a outcome c
  places_read {a} {b} {c} {p} {outcome} first next =
      let all : Call source order (Reads mmap2 mmap2_value) a outcome c =
      call_after (λ _. place) (λ s p. after_place p s) first (record {
        config = next.config;
        whole = next.whole;
        told = next.told;
        answer = λ t. (next.answer t).0;
        keeps = next.keeps;
      }) in record {
        config = all.config;
        whole = all.whole;
        told = all.told;
        answer = λ t. (
          all.answer t,
          λ w.
              (next.answer (first.told t)).1 (subst IsTrue (sym first.whole) w),
        );
        keeps = all.keeps;
      }

  -- the first was refused
  pub place_stops : {a b : Reader I E} {e : ErrorKind} →
      NeedsNoMemory {A = Place} (Err e) →
      Call source order (Reads (λ _. place) (λ p. p)) a (Err e) b →
      Call source order (ReadsInPlace mmap2 mmap2_value IsBorrowedMmap2) a (Err e) b
  place_stops {a} {b} {e} memory first =
      let all : Call source order (Reads mmap2 mmap2_value) a (Err e) b =
      call_stops (λ _. place) (λ s p. after_place p s) first in record {
        config = all.config;
        whole = all.whole;
        told = all.told;
        answer = λ t. (all.answer t, λ w. (tt, memory));
        keeps = all.keeps;
      }

  -- the path was read after the detail
  pub detail_read : (p : Place) {a b c : Reader I E} {d : MmapDetail} {outcome : Result Mmap2 ErrorKind} →
      Call source order (Reads mmap_detail detail_value) a (Ok d) b →
      Call source order (ReadsInPlace (λ _. after_detail p (detail_value d)) mmap2_value IsBorrowedMmap2) b outcome c →
      Call source order (ReadsInPlace (after_place p) mmap2_value IsBorrowedMmap2) a outcome c
  detail_read p {a} {b} {c} {d} {outcome} first next =
      let all : Call source order (Reads (after_place p) mmap2_value) a outcome c =
      call_after mmap_detail (λ s v. after_detail p v) first (record {
        config = next.config;
        whole = next.whole;
        told = next.told;
        answer = λ t. (next.answer t).0;
        keeps = next.keeps;
      }) in record {
        config = all.config;
        whole = all.whole;
        told = all.told;
        answer = λ t. (
          all.answer t,
          λ w.
              (next.answer (first.told t)).1 (subst IsTrue (sym first.whole) w),
        );
        keeps = all.keeps;
      }

  -- the detail was refused
  pub detail_stops : (p : Place) {a b : Reader I E} {e : ErrorKind} →
      NeedsNoMemory {A = MmapDetail} (Err e) →
      Call source order (Reads mmap_detail detail_value) a (Err e) b →
      Call source order (ReadsInPlace (after_place p) mmap2_value IsBorrowedMmap2) a (Err e) b
  detail_stops p {a} {b} {e} memory first =
      let all : Call source order (Reads (after_place p) mmap2_value) a (Err e) b =
      call_stops mmap_detail (λ s v. after_detail p v) first in record {
        config = all.config;
        whole = all.whole;
        told = all.told;
        answer = λ t. (all.answer t, λ w. (tt, memory));
        keeps = all.keeps;
      }
