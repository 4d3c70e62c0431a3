mod CpuLists
