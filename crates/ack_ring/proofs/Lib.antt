mod RingCounts
